-- Of name lists and Newick text what Numbers, Refusals, OneAnswer and FromC have of matrices and answers: 0 exactly on success, a refusal that leaves all that
-- was lent as it was, and two results that a contract allows coincide. Of reading itself they stand in newick/proofs/Promises.antt.
use mathlib.Core.Path.{◌≡◌, refl, ap, sym, ◌∙◌}
use mathlib.Core.List.{List}
use mathlib.Core.Logic.{◌↔◌, ◌≢◌}
use Prim.Native.Nat.{ℕ}
use native.Mathlib.Omega.{arith}
use lib.ListN.{length}
use Rattle.record.specs.Bytes.{File}
use Rattle.names.specs.Check as names
use Rattle.names.proofs.Places.{refusal_there}
use Rattle.grammar.specs.Trees.{one}
use Rattle.grammar.proofs.Reading.{reads_only}
use Rattle.newick.specs.Read as newick
use Rattle.newick.specs.Held.{SourceTrees}
use Rattle.newick.proofs.Promises.{refused_reading_trees, one_reading}
use Rattle.spelling.specs.Write as spelling
use Rattle.spelling.proofs.Places.{Small, spelled_small}
use Rattle.spelling.proofs.Promises.{reads_back}
use Rattle.flipcut.specs.Packed.{packed_trees, packed_text, ReadsNewickPacked, WritesNewickPacked}
use Rattle.flipcut.specs.Unpacked.{number_in}
use Rattle.flipcut.proofs.Unpacking.{trees_number_unpacks, text_number_unpacks}
use Rattle.std.specs.Prelude.{Result, Ok, Err}
use Rattle.record.specs.declared.refusal.Refusal.{Refusal}

-- ---- "success returns 0", and only success does

pub checking_names_succeeds : {file : List ℕ} {r : Result ℕ Refusal} → names.Checks file r → (names.returned r).number ≡ 0 ↔ ((count : ℕ) × (r ≡ Ok count))
checking_names_succeeds {r = Ok count} x = (λ z. (count, refl), λ t. refl)
checking_names_succeeds {file} {r = Err why} x =
    (λ z. absurd (omega (arith, z, (refusal_there file x.answers).1)), λ (count, t). absurd (let z : ◌≡◌ {A = ℕ} 0 1 = cc in omega arith))

pub writing_newick_succeeds : {answer list out : List ℕ} {r : Result ℕ Refusal} {out' : List ℕ} → File answer → spelling.Spells answer list out r out'
    → (spelling.returned r).number ≡ 0 ↔ ((size : ℕ) × (r ≡ Ok size))
writing_newick_succeeds {r = Ok size} f x = (λ z. (size, refl), λ t. refl)
writing_newick_succeeds {answer} {list} {out} {r = Err why} f x =
    let (near, some, few) : Small list (Err why) = rw (← x.answers) at (spelled_small f list (length out)) in
    (λ z. absurd (omega (arith, z, some)), λ (size, t). absurd (let z : ◌≡◌ {A = ℕ} 0 1 = cc in omega arith))

-- ---- "0 for every other number", "and then all lent memory is as before"

pub refused_names : {file : List ℕ} {r : Result ℕ Refusal} → names.Checks file r → (names.returned r).number ≢ 0 → (names.returned r).count ≡ 0
refused_names {r = Ok count} x some = absurd (some refl)
refused_names {r = Err why} x some = refl

pub refused_writing_newick : {answer list out : List ℕ} {r : Result ℕ Refusal} {out' : List ℕ} → spelling.Spells answer list out r out' → (spelling.returned r).number ≢ 0
    → ((spelling.returned r).size ≡ 0) × (out' ≡ out)
unfolding spelling.output_after
refused_writing_newick {r = Ok size} x some = absurd (some refl)
refused_writing_newick {r = Err why} x some = (refl, x.output)

pub refused_read_newick_from_c : {text matrix list matrix' list' : List ℕ} {v : ℕ} → ReadsNewickPacked text matrix list v matrix' list' → number_in v ≢ 0
    → (matrix' ≡ matrix) × (list' ≡ list)
refused_read_newick_from_c p some =
    let same = trees_number_unpacks p ∙ ap (λ (x : newick.Returned). x.number) (sym p.promised.numbers) in
    let (no-matrix, no-list, matrix, list) = refused_reading_trees p.promised (λ none. some (same ∙ none)) in
    (matrix, list)

pub refused_write_newick_from_c : {answer list out out' : List ℕ} {v : ℕ} → File answer → WritesNewickPacked answer list out v out' → number_in v ≢ 0
    → out' ≡ out
refused_write_newick_from_c f p some =
    let same = text_number_unpacks f p ∙ ap (λ (x : spelling.Returned). x.number) (sym p.promised.numbers) in
    (refused_writing_newick p.promised (λ none. some (same ∙ none))).1

-- ---- two results that a contract allows coincide

pub one_check_of_names : {file : List ℕ} {r r' : Result ℕ Refusal} → names.Checks file r → names.Checks file r' → r ≡ r'
one_check_of_names x y = x.answers ∙ sym y.answers

pub one_writing : {answer list out : List ℕ} {r r' : Result ℕ Refusal} {out' out'' : List ℕ} → spelling.Spells answer list out r out'
    → spelling.Spells answer list out r' out'' → (r ≡ r') × (out' ≡ out'')
one_writing {answer} {list} {out} x y =
    let same = x.answers ∙ sym y.answers in
    (same, x.output ∙ ap (λ (r : Result ℕ Refusal). spelling.output_after answer list r out) same ∙ sym y.output)

pub one_read_newick_from_c : {text matrix list : List ℕ} {v v' : ℕ} {matrix' list' matrix'' list'' : List ℕ} → ReadsNewickPacked text matrix list v matrix' list'
    → ReadsNewickPacked text matrix list v' matrix'' list'' → (v ≡ v') × (matrix' ≡ matrix'') × (list' ≡ list'')
one_read_newick_from_c p q =
    let (same, matrix, list) = one_reading p.promised q.promised in
    (p.packs ∙ ap packed_trees same ∙ sym q.packs, matrix, list)

pub one_write_newick_from_c : {answer list out : List ℕ} {v v' : ℕ} {out' out'' : List ℕ} → WritesNewickPacked answer list out v out'
    → WritesNewickPacked answer list out v' out'' → (v ≡ v') × (out' ≡ out'')
one_write_newick_from_c p q =
    let (same, output) = one_writing p.promised q.promised in
    (p.packs ∙ ap packed_text same ∙ sym q.packs, output)

-- ---- "what it writes reads back"

-- The text of an accepted answer and an accepted list is one of source trees: of the one tree that it spells. So reading takes it, where its outputs have room.
pub text_reads_back : {answer list : List ℕ} → File answer → spelling.Accepted answer list
    → SourceTrees (spelling.text_of answer list) (one (spelling.tree_of answer list))
text_reads_back {answer} {list} f a =
    let (spelt, within, taxa, columns) = reads_only (spelling.text_of answer list) (one (spelling.tree_of answer list)) (reads_back f a) in
    record { spelt = spelt; within = within }
