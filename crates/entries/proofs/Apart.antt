-- A list of entries apart, as three lists, and together again. Reading into a list of entries is reading into its three lists (`apart_read`), and where
-- it is taken the file's entries stand in front (`taken_entries`): what crate answer proves of three lists holds of entries.
use mathlib.Core.Path.{◌≡◌, refl, sym, ap, ◌∙◌, subst}
use mathlib.Core.List.{List, [], ◌∷◌, ◌++◌, map, map-append}
use Prim.Native.Nat.{ℕ, zero, suc}
use native.Mathlib.Nat.{zero-add}
use native.Mathlib.Omega.{arith}
use lib.ListN.{length, take, drop, length-map}
use lib.Seq.{take_at, drop_at, take-take}
use Rattle.record.specs.Bytes.{over}
use Rattle.answer.specs.Content.{Content, content_in, flip_count, columns_from, raised_from, lowered_from}
use Rattle.answer.specs.Reading.{reading, returned, listed, filled, Reads}
use Rattle.answer.specs.declared.Answer.{Answer}
use Rattle.record.specs.declared.refusal.Refusal.{Refusal}
use Rattle.std.specs.Prelude.{Result, Ok, Err}
use Rattle.answer.proofs.Runs.{length_entries}
use Rattle.entries.specs.declared.Flip.{Flip}
use Rattle.entries.specs.Entries.{zipped, entry_columns, entry_raised, entry_lowered, entries_of, entry_content, stored, ReadsEntries}
use Rattle.entries.proofs.Reading.{take_zipped}

-- ---- apart, and together again

take_map : {X Y : Type 0} (f : X → Y) (k : ℕ) (xs : List X) → take k (map f xs) ≡ map f (take k xs)
take_map f zero xs = refl
take_map f (suc k) [] = refl
take_map {Y = Y} f (suc k) (x ∷ xs) = ap {B = List Y} (λ r. f x ∷ r) (take_map f k xs)

drop_map : {X Y : Type 0} (f : X → Y) (k : ℕ) (xs : List X) → drop k (map f xs) ≡ map f (drop k xs)
drop_map f zero xs = refl
drop_map f (suc k) [] = refl
drop_map f (suc k) (x ∷ xs) = drop_map f k xs

pub listed_entries : (ys : List Flip) → listed (entry_columns ys) (entry_raised ys) (entry_lowered ys) ≡ length ys
listed_entries ys = omega (arith, length-map ys (λ (f : Flip). f.column), length-map ys (λ (f : Flip). f.raised), length-map ys (λ (f : Flip). f.lowered))

together : (ys : List Flip) → zipped (entry_columns ys) (entry_raised ys) (entry_lowered ys) ≡ ys
together [] = refl
together (y ∷ ys) = ap {B = List Flip} (λ r. y ∷ r) (together ys)

-- The entries of what is given are the list's first.
pub entries_given : (a : Answer) (ys : List Flip) → entries_of (entry_content a ys) ≡ take a.flips ys
entries_given a ys = sym (take_zipped a.flips (entry_columns ys) (entry_raised ys) (entry_lowered ys)) ∙ ap (take a.flips) (together ys)

-- "Writing reads no place or list entry past the counts."
pub first_entries : (a : Answer) (ys : List Flip) → entry_content a ys ≡ entry_content a (take a.flips ys)
first_entries a ys = rw (first (λ f. f.column), first (λ f. f.raised), first (λ f. f.lowered))
  where
    first : (f : Flip → ℕ) → take a.flips (map f ys) ≡ take a.flips (map f (take a.flips ys))
    first f = take_map f a.flips ys ∙ ap (map f) (sym (take-take a.flips a.flips ys (omega arith))) ∙ sym (take_map f a.flips (take a.flips ys))

-- Three lists of one length, as entries.
record Apart (cs us ds : List ℕ) : Type 0 where
  columns_are : entry_columns (zipped cs us ds) ≡ cs
  raised_are : entry_raised (zipped cs us ds) ≡ us
  lowered_are : entry_lowered (zipped cs us ds) ≡ ds

apart : (cs us ds : List ℕ) → length us ≡ length cs → length ds ≡ length cs → Apart cs us ds
apart [] [] [] e d = record { columns_are = refl; raised_are = refl; lowered_are = refl }
apart [] [] (x ∷ ds) e d = absurd (omega arith)
apart [] (u ∷ us) ds e d = absurd (omega arith)
apart (c ∷ cs) [] ds e d = absurd (omega arith)
apart (c ∷ cs) (u ∷ us) [] e d = absurd (omega arith)
apart (c ∷ cs) (u ∷ us) (x ∷ ds) e d =
    let rest = apart cs us ds (omega arith) (omega arith) in
    record { columns_are = rw rest.columns_are; raised_are = rw rest.raised_are; lowered_are = rw rest.lowered_are }

-- ---- reading

in_file_lem : (file : List ℕ) → Apart (content_in file).columns (content_in file).raised (content_in file).lowered
unfolding columns_from raised_from lowered_from
in_file_lem file =
    let k = flip_count file in
    apart _ _ _ (length_entries _ k ∙ sym (length_entries _ k)) (length_entries _ k ∙ sym (length_entries _ k))

length_read : (file : List ℕ) → length (entries_of (content_in file)) ≡ flip_count file
unfolding columns_from
length_read file = sym (length-map (entries_of (content_in file)) (λ (f : Flip). f.column)) ∙ ap length (in_file_lem file).columns_are ∙ length_entries _ (flip_count file)

-- One number of each entry, as it is left in a list of its own.
filled_map : (f : Flip → ℕ) (r : Result Answer Refusal) (es ys : List Flip) {new : List ℕ} → map f es ≡ new → map f (stored r es ++ drop (length (stored r es)) ys) ≡ filled r new (map f ys)
unfolding over
filled_map f (Ok a) es ys e = rw (← e, map-append f es (drop (length es) ys), length-map es f, zero-add, drop_map f (length es) ys)
filled_map f (Err why) es ys e = refl

module _ {file : List ℕ} {ys ys' : List Flip} {r : Result Answer Refusal} (x : ReadsEntries file ys r ys') where
  pub apart_read : Reads file (entry_columns ys) (entry_raised ys) (entry_lowered ys) r (entry_columns ys') (entry_raised ys') (entry_lowered ys')
  apart_read =
      let answers = x.answers ∙ ap (reading file) (sym (listed_entries ys)) in
      let es = entries_of (content_in file) in
      record {
        answers = answers;
        numbers = ap returned answers;
        columns_after = ap entry_columns x.list_after ∙ filled_map (λ f. f.column) r es ys (in_file_lem file).columns_are;
        raised_after = ap entry_raised x.list_after ∙ filled_map (λ f. f.raised) r es ys (in_file_lem file).raised_are;
        lowered_after = ap entry_lowered x.list_after ∙ filled_map (λ f. f.lowered) r es ys (in_file_lem file).lowered_are;
      }

  -- The file's entries stand first, and the rest stays as it was.
  pub taken_entries : {a : Answer} → r ≡ Ok a → {c : Content} → content_in file ≡ c → (take c.flips ys' ≡ entries_of c) × (drop c.flips ys' ≡ drop c.flips ys)
  taken_entries t e =
      let k = flip_count file in
      let es = entries_of (content_in file) in
      let long = length_read file in
      let is : ys' ≡ es ++ drop (length es) ys = x.list_after ∙ rw t in
      subst (λ (c : Content). (take c.flips ys' ≡ entries_of c) × (drop c.flips ys' ≡ drop c.flips ys)) e
      (ap (take k) is ∙ take_at es (drop (length es) ys) k long, ap (drop k) is ∙ drop_at es (drop (length es) ys) k long ∙ ap (λ (n : ℕ). drop n ys) long)
