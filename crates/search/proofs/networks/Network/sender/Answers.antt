-- `Network::sender` meets its contract. The invariant: of the taxa looked at none leads everywhere, and the one found sends.
use native.Mathlib.Omega.{arith}
use mathlib.Core.Path.{◌≡◌, sym, ap, ◌∙◌}
use Prim.Native.Nat.{ℕ, ◌^◌}
use Rattle.taxa.specs.Sets.{◌∖◌}
use Rattle.search.proofs.Reaching.{seek_found, seek_skip, seek_take, seek_end, gate_up, gate_free}
use Rattle.search.proofs.networks.Network.sender.Goals as goal
use Rattle.search.proofs.networks.Network.sender.Goals.{then-g-gt0+else-g-gt0-2, else-g-gt0}

pub gate_at-g-requires : goal.gate_at-g-requires
gate_at-g-requires c =
    let p = c.requires in
    (p.0, p.1, c.column_at-column.ensures, (p.2.sub (c.loop-left.invariant.inside.sub c.lowest-i.ensures.2)).is)

pub returns-then-g-gt0-2 : goal.returns-then-g-gt0-2
returns-then-g-gt0-2 c =
    let p = c.requires in
    let l = c.lowest-i.ensures in
    let inside = c.loop-left.invariant.inside.sub l.2 in
    let joins = (p.2.sub inside).is in
    seek_found
    inside.is
    (omega (arith, gate_up p.0 p.1 c.gate_at-g.ensures joins, c.if-g-gt0.true))
    (omega (arith, gate_free p.0 p.1 c.gate_at-g.ensures joins, c.if-g-gt0-2.true))
    l.1

pub loop-left-preserved : goal.loop-left-preserved
loop-left-preserved c =
    let p = c.requires in
    let v = c.loop-left in
    let l = c.lowest-i in
    let joins = (p.2.sub (v.invariant.inside.sub l.ensures.2)).is in
    let sends = gate_up p.0 p.1 c.gate_at-g.ensures joins in
    let free = gate_free p.0 p.1 c.gate_at-g.ensures joins in
    let q : c.rest-left.result ≡ v.left ∖ 2 ^ l.result = c.rest-left.ensures.0 ∙ ap (λ (y : ℕ). v.left ∖ 2 ^ y) (sym l.ensures.0) in
    elim c.if-g-gt0.branch [
      | then-g-gt0+else-g-gt0-2 w ↦ rw w.found-is (seek_take v.invariant l.result l.ensures.2.is q (omega (arith, sends, w.if-g-gt0.true)) (omega (arith, free, w.if-g-gt0-2.false)) l.ensures.1)
      | else-g-gt0 w ↦ rw w.found-is (seek_skip v.invariant l.result l.ensures.2.is q (omega (arith, sends, w.if-g-gt0.false)))
    ]

pub returns : goal.returns
returns c =
    let e : c.loop-left.left ≡ 0 = omega arith in
    seek_end (rw e at c.loop-left.invariant)
