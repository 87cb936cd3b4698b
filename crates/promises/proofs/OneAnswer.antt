-- Demand 2: "one matrix, one answer. Answer files read back to what was written, and no two accepted files, matrix or answer, carry the same content."
-- And two results that the contract of an operation allows coincide.
use mathlib.Core.Path.{◌≡◌, sym, ap, ◌∙◌}
use mathlib.Core.List.{List}
use Prim.Native.Nat.{ℕ}
use lib.IntN.{ℤ}
use Rattle.record.specs.Bytes.{File}
use Rattle.record.specs.declared.Cursor.{Cursor}
use Rattle.record.proofs.Passing.{through}
use Rattle.score.specs.Operation.{Scores}
use Rattle.matrix.specs.Matrix.{matrix_of}
use Rattle.matrix.specs.Check.{checked, Checks}
use Rattle.matrix.proofs.Taken.{same_matrix_same_file}
use Rattle.answer.specs.declared.Answer.{Answer}
use Rattle.answer.specs.Content.{Content, content_in, content_of, file_of}
use Rattle.answer.specs.Reading.{file_tests, read_tests, reading, listed, filled, Reads}
use Rattle.answer.specs.Writing.{Writes, put}
use Rattle.answer.proofs.Taken.{same_content_same_file}
use Rattle.answer.proofs.RoundTrip.{took, read_content}
use Rattle.split.specs.Operation as split
use Rattle.tree.specs.Build as build
use Rattle.promises.specs.Held.{Leaves}
use Rattle.promises.proofs.Answers.{leaves_file}
use Rattle.std.specs.Prelude.{Result, Ok}
use Rattle.record.specs.declared.refusal.Refusal.{Refusal}
use Rattle.matrix.specs.Check.{shape}
use Rattle.score.specs.declared.Sums.{Sums}
use Rattle.matrix.specs.declared.Shape.{Shape}
use Rattle.search.specs.declared.Split.{Split}
use Rattle.tree.specs.declared.Built.{Built}

-- ---- "one matrix, one answer"

-- Whatever the workspace and the output are, the build leaves the same bytes.
pub one_answer : {file answer answer' : List ℕ} → Leaves file answer → Leaves file answer' → answer ≡ answer'
one_answer b b' = leaves_file b ∙ sym (leaves_file b')

-- ---- two results that a contract allows coincide

pub one_check : {file : List ℕ} {r r' : Result Shape Refusal} → Checks file r → Checks file r' → r ≡ r'
one_check x y = x.answers ∙ sym y.answers

pub one_score : {matrix answer : List ℕ} {r r' : Result Sums Refusal} → Scores matrix answer r → Scores matrix answer r' → r ≡ r'
one_score x y = x.answers ∙ sym y.answers

pub one_build : {file out : List ℕ} {ws : List ℤ} {r r' : Result Built Refusal} {ws' ws'' : List ℤ} {out' out'' : List ℕ} → build.Builds file ws out r ws' out' → build.Builds file ws out r' ws'' out''
    → (r ≡ r') × (ws' ≡ ws'') × (out' ≡ out'')
one_build {file} {out} {ws} x y =
    let same = x.answers ∙ sym y.answers in (
      same,
      x.workspace ∙ ap (λ (r : Result Built Refusal). build.workspace_after file r ws) same ∙ sym y.workspace,
      x.output ∙ ap (λ (r : Result Built Refusal). build.output_after file r out) same ∙ sym y.output,
    )

pub one_split : {file : List ℕ} {S : ℕ} {ws : List ℤ} {r r' : Result Split Refusal} {ws' ws'' : List ℤ} → split.Splits file S ws r ws' → split.Splits file S ws r' ws'' → (r ≡ r') × (ws' ≡ ws'')
one_split {file} {S} {ws} x y =
    let same = x.answers ∙ sym y.answers in
    (same, x.workspace ∙ ap (λ (r : Result Split Refusal). split.workspace_after file r ws) same ∙ sym y.workspace)

pub one_read : {file cs us ds : List ℕ} {r r' : Result Answer Refusal} {cs' us' ds' cs'' us'' ds'' : List ℕ} → Reads file cs us ds r cs' us' ds' → Reads file cs us ds r' cs'' us'' ds''
    → (r ≡ r') × (cs' ≡ cs'') × (us' ≡ us'') × (ds' ≡ ds'')
one_read {file} {cs} {us} {ds} x y =
    let c = content_in file in
    let same = x.answers ∙ sym y.answers in (
      same,
      x.columns_after ∙ ap (λ (r : Result Answer Refusal). filled r c.columns cs) same ∙ sym y.columns_after,
      x.raised_after ∙ ap (λ (r : Result Answer Refusal). filled r c.raised us) same ∙ sym y.raised_after,
      x.lowered_after ∙ ap (λ (r : Result Answer Refusal). filled r c.lowered ds) same ∙ sym y.lowered_after,
    )

pub one_write : {c : Content} {entries : ℕ} {out : List ℕ} {r r' : Result ℕ Refusal} {out' out'' : List ℕ} → Writes c entries out r out' → Writes c entries out r' out'' → (r ≡ r') × (out' ≡ out'')
one_write {c} {entries} {out} x y =
    let same = x.answers ∙ sym y.answers in
    (same, x.out_after ∙ ap (λ (r : Result ℕ Refusal). put r (file_of c) out) same ∙ sym y.out_after)

-- ---- "no two accepted files, matrix or answer, carry the same content"

pub no_two_matrix_files : {file file' : List ℕ} {n m n' m' : ℕ} → File file → File file' → Ok (shape n m) ≡ checked file → Ok (shape n' m') ≡ checked file'
    → matrix_of file ≡ matrix_of file' → file ≡ file'
no_two_matrix_files = same_matrix_same_file

-- An answer file that reading takes passes the tests of its file.
accepted : {file cs us ds : List ℕ} {r : Result Answer Refusal} {a : Answer} {cs' us' ds' : List ℕ} → Reads file cs us ds r cs' us' ds' → r ≡ Ok a → (next : Cursor) × (Ok next ≡ file_tests file)
unfolding reading read_tests
accepted {file} {cs} {us} {ds} x t =
    let (here, p) = took (content_in file) (read_tests file (listed cs us ds)) (sym x.answers ∙ t) in
    let (next, passed, rest) = through (file_tests file) p in
    (next, passed)

-- Two answer files from which reading takes the same content, a value and a list, are the same.
pub no_two_answer_files : {file file₁ cs us ds cs₁ us₁ ds₁ : List ℕ} {r r₁ : Result Answer Refusal} {a a₁ : Answer} {cs' us' ds' cs₁' us₁' ds₁' : List ℕ} → File file → File file₁
    → Reads file cs us ds r cs' us' ds' → Reads file₁ cs₁ us₁ ds₁ r₁ cs₁' us₁' ds₁' → r ≡ Ok a → r₁ ≡ Ok a₁
    → content_of a cs' us' ds' ≡ content_of a₁ cs₁' us₁' ds₁' → file ≡ file₁
no_two_answer_files f f₁ x y t t₁ e =
    let (here, p) = accepted x t in
    let (there, q) = accepted y t₁ in
    same_content_same_file f f₁ p q (sym (read_content f x t) ∙ e ∙ read_content f₁ y t₁)
