-- `Network::through` meets its contract. The invariant: the taxa left are those that the column joins and that are not met, and the way to i is as it was.
use native.Mathlib.Omega.{arith}
use mathlib.Core.Path.{◌≡◌, refl, sym, ap, ap₂, ◌∙◌}
use mathlib.Core.Bool.{true≢false}
use mathlib.Core.Logic.{◌≢◌}
use Prim.Native.Nat.{ℕ, ◌+◌, ◌-◌, ◌*◌, ◌^◌, min, max}
use Rattle.taxa.specs.Sets.{has, ◌∖◌, multiplicity_in}
use Rattle.taxa.proofs.Counts.{count_le}
use Rattle.search.specs.Workspace.{outs, inns}
use Rattle.search.specs.Search.{nth}
use Rattle.search.specs.inner.Reaching.{width_of}
use Rattle.search.specs.inner.On as on
use Rattle.search.proofs.Reaching.{min_first, gate_carry, pass_start, pass_one, others, other_width, still_in, off_in}
use Rattle.search.proofs.networks.Network.through.Goals as goal

-- A turn is less than how many are met.
pub overflow_add-stamp-2 : goal.overflow_add-stamp-2
overflow_add-stamp-2 c =
    let a = c.args in
    omega (arith, c.requires.1.sweeping.turns a.i c.requires.4, count_le 64 a.met)

pub loop-left-init : goal.loop-left-init
loop-left-init c =
    let a = c.args in
    let p = c.requires in
    rw c.difference-left.ensures (off_in (nth a.self.now.joined.now a.c) a.met, pass_start a.c p.0 p.1 p.2 p.4, refl)

pub loop-left-preserved : goal.loop-left-preserved
loop-left-preserved c =
    let a = c.args in
    let p = c.requires in
    let v = c.loop-left in
    let j = c.lowest-j.result in
    let o = c.offer-all.ensures in
    let new = c.loop-left.invariant.0 j c.lowest-j.ensures.2.is in
    -- What is offered: what the hop carries, and no more than the way to i does.
    let row = nth a.self.now.joined.now in
    let gate = c.gate_at-gate.result in
    let takes = gate.weight * multiplicity_in a.self.now.planes.now j + outs a.ws.now row a.c j - inns a.ws.now row a.c j in
    let free = max gate.free (outs a.ws.now row a.c j) in
    let offers : c.carry_to-k.result ≡ min (on.carried a.self.now a.ws.now a.c a.i j) (width_of v.tree a.i) =
    c.carry_to-k.ensures
    ∙ ap (λ (s : ℕ). min (min s takes) free) c.min.ensures
    ∙ min_first gate.sends (width_of a.tree.now a.i) takes free
    ∙ ap₂ (λ (x y : ℕ). min x y) (gate_carry p.0 p.2 c.gate_at-gate.ensures p.3 j new.0) (sym v.invariant.2) in
    let apart : a.i ≢ j = λ e. true≢false (sym (v.invariant.1.keeps a.i p.4) ∙ ap (has v.all) e ∙ new.1) in
    let q : c.rest-left.result ≡ v.left ∖ 2 ^ j = c.rest-left.ensures.0 ∙ ap (λ (y : ℕ). v.left ∖ 2 ^ y) (sym c.lowest-j.ensures.0) in (
      λ x y. let z = still_in v.left j x (ap (λ (u : ℕ). has u x) (sym q) ∙ y) in ((v.invariant.0 x z.0).0, others o x z.1 ∙ (v.invariant.0 x z.0).1),
      pass_one v.invariant.1 p.2 (p.0.net.low a.c p.2 j new.0) c.lowest-j.ensures.1 new.1 offers o q,
      other_width o a.i apart ∙ v.invariant.2,
    )

pub carry_to-k-requires : goal.carry_to-k-requires
carry_to-k-requires c =
    let p = c.requires in
    (p.0, p.2, c.column_at-column.ensures, (c.loop-left.invariant.0 c.lowest-j.result c.lowest-j.ensures.2.is).0, c.gate_at-gate.ensures.is_weight)
