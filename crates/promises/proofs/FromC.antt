-- Of the functions that C calls: a refusal, which the packed number tells, leaves all that was lent as it was (`refused-..-from-c`); and two numbers, with
-- what is left in lent memory, that a contract allows coincide (`one-..-from-c`).
use mathlib.Core.Path.{◌≡◌, refl, ap, sym, ◌∙◌}
use mathlib.Core.List.{List}
use mathlib.Core.Logic.{◌≢◌}
use Prim.Native.Nat.{ℕ}
use lib.IntN.{ℤ}
use lib.ListN.{length}
use Rattle.record.specs.Bytes.{File}
use Rattle.answer.specs.declared.Answer.{Answer}
use Rattle.answer.specs.Reading as reading
use Rattle.answer.specs.Writing as writing
use Rattle.entries.specs.declared.Flip.{Flip}
use Rattle.split.specs.Operation as split
use Rattle.tree.specs.Build as build
use Rattle.flipcut.specs.Packed.{packed_build, packed_split, packed_read, packed_write, result_after, value_after}
use Rattle.flipcut.specs.Packed.{BuildsPacked, SplitsPacked, ReadsPacked, WritesPacked}
use Rattle.flipcut.specs.Unpacked.{number_in}
use Rattle.flipcut.proofs.Unpacking.{build_unpacks, split_unpacks, read_unpacks, write_unpacks}
use Rattle.promises.proofs.Refusals.{refused_build, refused_split}
use Rattle.promises.proofs.OneAnswer.{one_build, one_split}
use Rattle.promises.proofs.Entries.{refused_read_of_entries, refused_write_of_entries, one_read_of_entries, one_write_of_entries}
use Rattle.std.specs.Prelude.{Result, Ok, Err}
use Rattle.record.specs.declared.refusal.Refusal.{Refusal}
use Rattle.search.specs.declared.Split.{Split}

-- ---- "and then all lent memory is as before"

pub refused_build_from_c : {file : List ℕ} → File file → {ws ws' : List ℤ} {out out' : List ℕ} {v : ℕ} → BuildsPacked file ws out v ws' out' → number_in v ≢ 0
    → (ws' ≡ ws) × (out' ≡ out)
refused_build_from_c f p some =
    let same = ap (λ (x : build.Returned). x.number) (build_unpacks f p ∙ sym p.promised.numbers) in
    let (size, sum, workspace, output) = refused_build p.promised (λ none. some (same ∙ none)) in
    (workspace, output)

kept_result : (r : Result Split Refusal) → (split.returned r).number ≢ 0 → (result : List ℕ) → result_after r result ≡ result
kept_result (Ok it) some result = absurd (some refl)
kept_result (Err why) some result = refl

pub refused_split_from_c : {file : List ℕ} {S : ℕ} {ws ws' : List ℤ} {result result' : List ℕ} {v : ℕ} → length result ≡ 3
    → SplitsPacked file S ws result v ws' result' → number_in v ≢ 0 → (ws' ≡ ws) × (result' ≡ result)
refused_split_from_c {result = result} three p some =
    let (splits, after) = p.promised in
    let same = ap (λ (x : split.Returned). x.number) (split_unpacks three p ∙ sym splits.numbers) in
    let refused : (split.returned p.answer).number ≢ 0 = λ none. some (same ∙ none) in
    let (cost, side, t, workspace) = refused_split splits refused in
    (workspace, after ∙ kept_result p.answer refused result)

kept_numbers : (r : Result Answer Refusal) → (reading.returned r).number ≢ 0 → (result : List ℕ) → value_after r result ≡ result
kept_numbers (Ok answer) some result = absurd (some refl)
kept_numbers (Err why) some result = refl

pub refused_read_from_c : {file : List ℕ} {list list' : List Flip} {result result' : List ℕ} {v : ℕ} → length result ≡ 131
    → ReadsPacked file list result v list' result' → number_in v ≢ 0 → (list' ≡ list) × (result' ≡ result)
refused_read_from_c {result = result} long p some =
    let (reads, after) = p.promised in
    let same = ap (λ (x : reading.Returned). x.number) (read_unpacks long p ∙ sym reads.numbers) in
    let refused : (reading.returned p.answer).number ≢ 0 = λ none. some (same ∙ none) in
    ((refused_read_of_entries reads refused).1, after ∙ kept_numbers p.answer refused result)

pub refused_write_from_c : (answer : Answer) (list : List Flip) {out out' : List ℕ} {v : ℕ} → WritesPacked answer list out v out' → number_in v ≢ 0 → out' ≡ out
refused_write_from_c answer list p some =
    let same = ap (λ (x : writing.Returned). x.number) (write_unpacks answer list p ∙ sym p.promised.numbers) in
    (refused_write_of_entries answer list p.promised (λ none. some (same ∙ none))).1

-- ---- "one matrix, one answer"

pub one_build_from_c : {file out : List ℕ} {ws : List ℤ} {v v' : ℕ} {ws' ws'' : List ℤ} {out' out'' : List ℕ} → BuildsPacked file ws out v ws' out'
    → BuildsPacked file ws out v' ws'' out'' → (v ≡ v') × (ws' ≡ ws'') × (out' ≡ out'')
one_build_from_c p q =
    let (same, workspace, output) = one_build p.promised q.promised in
    (p.packs ∙ ap packed_build same ∙ sym q.packs, workspace, output)

pub one_split_from_c : {file : List ℕ} {S : ℕ} {ws : List ℤ} {result : List ℕ} {v v' : ℕ} {ws' ws'' : List ℤ} {result' result'' : List ℕ}
    → SplitsPacked file S ws result v ws' result' → SplitsPacked file S ws result v' ws'' result'' → (v ≡ v') × (ws' ≡ ws'') × (result' ≡ result'')
one_split_from_c {result = result} p q =
    let (same, workspace) = one_split p.promised.0 q.promised.0 in
    (p.packs ∙ ap packed_split same ∙ sym q.packs, workspace, p.promised.1 ∙ ap (λ (r : Result Split Refusal). result_after r result) same ∙ sym q.promised.1)

pub one_read_from_c : {file : List ℕ} {list : List Flip} {result : List ℕ} {v v' : ℕ} {list' list'' : List Flip} {result' result'' : List ℕ}
    → ReadsPacked file list result v list' result' → ReadsPacked file list result v' list'' result'' → (v ≡ v') × (list' ≡ list'') × (result' ≡ result'')
one_read_from_c {result = result} p q =
    let (same, entries) = one_read_of_entries p.promised.0 q.promised.0 in (
      p.packs ∙ ap packed_read same ∙ sym q.packs,
      entries,
      p.promised.1 ∙ ap (λ (r : Result Answer Refusal). value_after r result) same ∙ sym q.promised.1,
    )

pub one_write_from_c : (answer : Answer) (list : List Flip) {out : List ℕ} {v v' : ℕ} {out' out'' : List ℕ} → WritesPacked answer list out v out'
    → WritesPacked answer list out v' out'' → (v ≡ v') × (out' ≡ out'')
one_write_from_c answer list p q =
    let (same, output) = one_write_of_entries answer list p.promised q.promised in
    (p.packs ∙ ap packed_write same ∙ sym q.packs, output)
