-- The refusals of documents 01 and 02, each with the number that they give it.
use Rattle.std.specs.Prelude.{ℕ}
use Rattle.record.specs.declared.refusal.Reason.{Reason}
use Rattle.record.specs.declared.refusal.Refusal.{Refusal}
use Rattle.record.specs.declared.refusal.Reason.TheVariants.{CutShort, Unexpected, TaxonCount, ColumnCount, Weightless, UnknownTaxon, BothSets, Trailing, Workspace, Room, GroupToSplit, Groups, Flips, Total, Differ, Misfit, LongName, Repeated, TooMany, TooDeep, Multiplicities, OtherTree}

-- A refusal for a reason, at a place.
abbrev pub refused : Reason → ℕ → Refusal
refused reason place = record { reason = reason; place = place }

-- The number of a reason: what C and the programs tell.
abbrev pub refusal_number : Reason → ℕ
refusal_number CutShort = 1
refusal_number Unexpected = 2
refusal_number TaxonCount = 3
refusal_number ColumnCount = 4
refusal_number Weightless = 5
refusal_number UnknownTaxon = 6
refusal_number BothSets = 7
refusal_number Trailing = 8
refusal_number Workspace = 9
refusal_number Room = 10
refusal_number GroupToSplit = 11
refusal_number Groups = 12
refusal_number Flips = 13
refusal_number Total = 14
refusal_number Differ = 15
refusal_number Misfit = 16
refusal_number LongName = 17
refusal_number Repeated = 18
refusal_number TooMany = 19
refusal_number TooDeep = 20
refusal_number Multiplicities = 21
refusal_number OtherTree = 26
