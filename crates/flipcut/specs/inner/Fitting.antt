-- An answer whose numbers fit the bits that they are packed into.
use Rattle.std.specs.Prelude.{ℕ, ◌^◌, ◌<◌, Result, Ok, Err}
use Rattle.record.specs.declared.refusal.Refusal.{Refusal}
use Rattle.answer.specs.declared.Answer.{Answer}
use Rattle.flipcut.specs.Packed.{told}
use Rattle.record.specs.Refusals.{refusal_number}
use Rattle.matrix.specs.declared.Shape.{Shape}
use Rattle.search.specs.declared.Split.{Split}
use Rattle.tree.specs.declared.Built.{Built}
use Rattle.score.specs.declared.Sums.{Sums}
use Rattle.newick.specs.declared.Derived.{Derived}

-- A refusal.
abbrev pub RefusalFits : Refusal → Type 0
RefusalFits why = (refusal_number why.reason < 2 ^ 8) × (why.place < 2 ^ 55)

-- What the check answers.
abbrev pub CheckFits : Result Shape Refusal → Type 0
CheckFits (Ok it) = (it.n < 2 ^ 16) × (it.m < 2 ^ 16)
CheckFits (Err why) = RefusalFits why

-- What the build answers.
abbrev pub BuildFits : Result Built Refusal → Type 0
BuildFits (Ok it) = (it.size < 2 ^ 31) × (it.total < 2 ^ 32)
BuildFits (Err why) = RefusalFits why

-- What the split answers.
abbrev pub SplitFits : Result Split Refusal → Type 0
SplitFits (Ok it) = Unit
SplitFits (Err why) = RefusalFits why

-- What reading answers.
abbrev pub ReadFits : Result Answer Refusal → Type 0
ReadFits (Ok answer) = Unit
ReadFits (Err why) = RefusalFits why

-- What writing answers.
abbrev pub WriteFits : Result ℕ Refusal → Type 0
WriteFits (Ok size) = size < 2 ^ 31
WriteFits (Err why) = RefusalFits why

-- What the score answers.
abbrev pub ScoreFits : Result Sums Refusal → Type 0
ScoreFits (Ok it) = (it.raises.0 < 2 ^ 31) × (it.lowers.0 < 2 ^ 31)
ScoreFits (Err why) = RefusalFits why

-- What reading source trees answers.
abbrev pub TreesFit : Result Derived Refusal → Type 0
TreesFit (Ok it) = (it.matrix < 2 ^ 31) × (it.names < 2 ^ 32)
TreesFit (Err why) = RefusalFits (told why)

-- What writing as Newick answers.
abbrev pub TextFits : Result ℕ Refusal → Type 0
TextFits (Ok size) = size < 2 ^ 31
TextFits (Err why) = RefusalFits (told why)
