-- The numbers of refusals: none is 0, which is success, and none is above 26.
use Prim.Native.Nat.{◌≤◌, ◌<◌}
use lib.Dec.{lit<, lit≤}
use Rattle.record.specs.Refusals.{refusal_number}
use Rattle.record.specs.declared.refusal.Reason.{Reason}
use Rattle.record.specs.declared.refusal.Reason.TheVariants as reason

pub few_numbers : (r : Reason) → (0 < refusal_number r) × (refusal_number r ≤ 26)
few_numbers reason.CutShort = (lit< tt, lit≤ tt)
few_numbers reason.Unexpected = (lit< tt, lit≤ tt)
few_numbers reason.TaxonCount = (lit< tt, lit≤ tt)
few_numbers reason.ColumnCount = (lit< tt, lit≤ tt)
few_numbers reason.Weightless = (lit< tt, lit≤ tt)
few_numbers reason.UnknownTaxon = (lit< tt, lit≤ tt)
few_numbers reason.BothSets = (lit< tt, lit≤ tt)
few_numbers reason.Trailing = (lit< tt, lit≤ tt)
few_numbers reason.Workspace = (lit< tt, lit≤ tt)
few_numbers reason.Room = (lit< tt, lit≤ tt)
few_numbers reason.GroupToSplit = (lit< tt, lit≤ tt)
few_numbers reason.Groups = (lit< tt, lit≤ tt)
few_numbers reason.Flips = (lit< tt, lit≤ tt)
few_numbers reason.Total = (lit< tt, lit≤ tt)
few_numbers reason.Differ = (lit< tt, lit≤ tt)
few_numbers reason.Misfit = (lit< tt, lit≤ tt)
few_numbers reason.LongName = (lit< tt, lit≤ tt)
few_numbers reason.Repeated = (lit< tt, lit≤ tt)
few_numbers reason.TooMany = (lit< tt, lit≤ tt)
few_numbers reason.TooDeep = (lit< tt, lit≤ tt)
few_numbers reason.Multiplicities = (lit< tt, lit≤ tt)
few_numbers reason.OtherTree = (lit< tt, lit≤ tt)
