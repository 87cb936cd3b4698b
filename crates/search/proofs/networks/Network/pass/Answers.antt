-- `Network::pass` meets its contract: all that the column joins is met, or nobody sends, or one who leads wherever the others lead.
use mathlib.Core.Path.{sym, ◌∙◌}
use Rattle.taxa.proofs.Members.{within_⊆, ∩-⊆, in∩}
use Rattle.search.specs.Search.{nth}
use Rattle.search.proofs.Reaching.{cross_full, cross_none, cross}
use Rattle.search.proofs.networks.Network.pass.Goals as goal

pub returns-then-subset : goal.returns-then-subset
returns-then-subset c =
    let p = c.requires in
    cross_full p.0 p.2 p.1 ((within_⊆ (nth c.args.self.now.joined.now c.args.c) c.args.met).0 (sym c.subset.ensures ∙ c.if-subset.true))

pub sender-i-requires : goal.sender-i-requires
sender-i-requires c =
    let a = c.args in
    let p = c.requires in
    (p.0, p.2, rw c.common-here.ensures (∩-⊆ (nth a.self.now.joined.now a.c) a.met))

pub returns-then-i-eq-NOBODY : goal.returns-then-i-eq-NOBODY
returns-then-i-eq-NOBODY c =
    let leads = rw c.common-here.ensures at c.sender-i.ensures in
    let p = c.requires in
    cross_none p.0 p.2 p.1 (rw c.if-i-eq-NOBODY.true at leads)

pub through-requires : goal.through-requires
through-requires c =
    let leads = rw c.common-here.ensures at c.sender-i.ensures in
    let a = c.args in
    let p = c.requires in
    let h = (in∩ (nth a.self.now.joined.now a.c) a.met).0 (record { is = leads.held c.if-i-eq-NOBODY.false }) in
    (p.0, p.1, p.2, h.0.is, h.1.is)

pub returns : goal.returns
returns c =
    let leads = rw c.common-here.ensures at c.sender-i.ensures in
    let p = c.requires in
    cross p.0 p.2 p.1 leads c.through.ensures
