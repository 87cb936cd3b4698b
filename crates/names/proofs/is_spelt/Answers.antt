-- `names::is_spelt` meets its contract. The invariant: what is left to test comes to what all comes to.
use mathlib.Core.Path.{sym, ◌∙◌}
use native.Mathlib.Omega.{arith}
use Rattle.names.proofs.Spelling.{spelt_next, spelt_end}
use Rattle.names.proofs.is_spelt.Goals as goal

pub returns-then-not-may_stand : goal.returns-then-not-may_stand
returns-then-not-may_stand c =
    let name = c.args.name.now in
    rw (c.loop-byte.invariant, spelt_next name c.loop-byte.byte-index (omega arith), sym c.may_stand.ensures ∙ c.if-not-may_stand.true)

pub loop-byte-preserved : goal.loop-byte-preserved
loop-byte-preserved c =
    let name = c.args.name.now in
    rw (c.loop-byte.invariant, spelt_next name c.loop-byte.byte-index (omega arith), sym c.may_stand.ensures ∙ c.if-not-may_stand.false)

pub returns : goal.returns
returns c = rw (c.loop-byte.invariant, spelt_end c.args.name.now c.loop-byte.byte-index (omega arith))
