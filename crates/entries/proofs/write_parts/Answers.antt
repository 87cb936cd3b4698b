-- `entries::write_parts` meets its contract: crate answer writes from the first of the three parts, as many as are counted.
use mathlib.Core.Path.{◌≡◌, sym}
use mathlib.Core.List.{List}
use Prim.Native.Nat.{ℕ, ◌≤◌}
use native.Mathlib.Omega.{arith}
use lib.ListN.{length, take}
use lib.Seq.{length-take-le}
use Rattle.answer.specs.Content.{Content}
use Rattle.answer.specs.Reading.{listed}
use Rattle.answer.specs.Writing.{Writes}
use Rattle.entries.proofs.write_parts.Goals as goal
use Rattle.std.specs.Prelude.{Result}
use Rattle.record.specs.declared.refusal.Refusal.{Refusal}

-- that many entries are listed
listed_first : (k : ℕ) (cs us ds : List ℕ) → (k ≤ length cs) × (k ≤ length us) × (k ≤ length ds) → {c : Content} {out out' : List ℕ} {r : Result ℕ Refusal} → Writes c (listed (take k cs) (take k us) (take k ds)) out r out' → Writes c k out r out'
listed_first k cs us ds l w = rw many at w
  where
    many : listed (take k cs) (take k us) (take k ds) ≡ k
    many = let a = length-take-le k cs l.0 in let b = length-take-le k us l.1 in let c = length-take-le k ds l.2 in omega arith

pub slice_bounds-write-end : goal.slice_bounds-write-end
slice_bounds-write-end c = sym (length-take-le _ _ (omega (arith, c.requires.0, c.requires.1, c.requires.2)))

pub slice_bounds-write-end-2 : goal.slice_bounds-write-end-2
slice_bounds-write-end-2 c = sym (length-take-le _ _ (omega (arith, c.requires.0, c.requires.1, c.requires.2)))

pub slice_bounds-write-end-3 : goal.slice_bounds-write-end-3
slice_bounds-write-end-3 c = sym (length-take-le _ _ (omega (arith, c.requires.0, c.requires.1, c.requires.2)))

pub returns : goal.returns
returns c =
    listed_first c.args.count c.args.columns.now c.args.raised.now c.args.lowered.now c.requires c.write.ensures
