-- `tree::agrees` meets its contract.
use borrow.Author.Tests.{eq-eqb, ne_eqb}
use mathlib.Core.Path.{◌∙◌, sym}
use native.Mathlib.Omega.{arith}
use Rattle.record.specs.Bytes.{number_at}
use Rattle.tree.proofs.agrees.Goals as goal

pub returns-then-u16_at-n : goal.returns-then-u16_at-n
returns-then-u16_at-n c =
    let args = c.args in
    rw (ne_eqb (number_at 2 args.tree.now 4) args.n (λ e. c.if-u16_at-n.true (c.u16_at.ensures ∙ e)))

pub returns : goal.returns
returns c =
    let args = c.args in
    rw (eq-eqb (number_at 2 args.tree.now 4) args.n (sym c.u16_at.ensures ∙ c.if-u16_at-n.false), ← c.u16_at-2.ensures)

pub u16_at-requires : goal.u16_at-requires
u16_at-requires c = omega (arith, c.requires)

pub u16_at-requires-2 : goal.u16_at-requires-2
u16_at-requires-2 c = omega (arith, c.requires)
