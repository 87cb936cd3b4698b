-- `record::Cursor::read_whole` meets its contract: length and kind are compared as one number.
use mathlib.Core.Path.{ap, ◌∙◌}
use native.Mathlib.Omega.{arith}
use Rattle.record.specs.declared.Step.TheVariants.{Refused}
use Rattle.record.specs.Bytes.{File}
use Rattle.record.proofs.Steps as steps
use Rattle.record.proofs.Cursor.read_whole.Goals as goal

pub returns-then-u32_at-opening : goal.returns-then-u32_at-opening
returns-then-u32_at-opening c =
    let bytes : File c.args.file.now = record { byte = λ i. omega (arith, c.type_inv.file i) } in
    ap Refused c.at.ensures ∙ steps.other_opening bytes _ _ (omega arith) (omega arith)

pub returns : goal.returns
returns c =
    let bytes : File c.args.file.now = record { byte = λ i. omega (arith, c.type_inv.file i) } in
    steps.same_opening bytes _ _ (omega arith) (omega arith) (omega arith)
