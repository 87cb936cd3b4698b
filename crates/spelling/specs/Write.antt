-- The operation "write as Newick": an answer file, a name list file and a lent output. "A writer gives an answer and a name list back as Newick, without
-- blanks, parts by lowest taxon" (document 02, C-11).
use Rattle.std.specs.Prelude.{◌≡◌, cond, List, [], ℕ, ltb, eqb, length, get_or, Result, Ok, Err}
use Rattle.taxa.specs.Sets.{all}
use Rattle.record.specs.Bytes.{over}
use Rattle.record.specs.Records.{Passed}
use Rattle.record.specs.Refusals.{refused, refusal_number}
use Rattle.record.specs.declared.Cursor.{Cursor}
use Rattle.record.specs.declared.refusal.Refusal.{Refusal}
use Rattle.record.specs.declared.refusal.Reason.TheVariants as reason
use Rattle.answer.specs.Content.{content_in}
use Rattle.answer.specs.Reading.{file_tests}
use Rattle.grammar.specs.Trees.{Tree, one}
use Rattle.grammar.specs.Columns.{Bytes}
use Rattle.grammar.specs.Writer.{written}
use Rattle.clades.specs.Draw.{drawn}
use Rattle.names.specs.Check.{names_in, checked}

-- The name of taxon i by a name list file.
abbrev pub name_in : List ℕ → ℕ → Bytes
name_in list i = get_or (names_in list) i []

-- The tree of an answer file, drawn with the names of a list.
abbrev pub tree_of : List ℕ → List ℕ → Tree
tree_of answer list = let c = content_in answer in drawn (name_in list) c.taxa (all c.n)

-- Its text, closed by a semicolon.
abbrev pub text_of : List ℕ → List ℕ → List ℕ
text_of answer list = written (one (tree_of answer list))

-- Both files were read: "then 15 at 0 where it has not n names", and last 10, "output shorter than the bytes to write"; `room` is the output's length.
unfoldable pub after_both : List ℕ → List ℕ → ℕ → ℕ → Result ℕ Refusal
after_both answer list count room =
    cond (eqb count (content_in answer).n)
    (cond (ltb room (length (text_of answer list))) (Err (refused reason.Room 0)) (Ok (length (text_of answer list))))
    (Err (refused reason.Differ 0))

-- The answer was read: the list is.
abbrev pub after_list : List ℕ → List ℕ → ℕ → Result ℕ Refusal → Result ℕ Refusal
after_list answer list room (Ok count) = after_both answer list count room
after_list answer list room (Err why) = Err why

-- "a refused answer gives its place in the answer", and comes first.
abbrev pub after_answer : List ℕ → List ℕ → ℕ → Passed → Result ℕ Refusal
after_answer answer list room (Ok here) = after_list answer list room (checked list)
after_answer answer list room (Err why) = Err why

-- What writing the two files answers.
unfoldable pub spelled : List ℕ → List ℕ → ℕ → Result ℕ Refusal
spelled answer list room = after_answer answer list room (file_tests answer)

-- "A refusal [..] changes no lent memory." "Output past the written length stays as it was."
unfoldable pub output_after : List ℕ → List ℕ → Result ℕ Refusal → List ℕ → List ℕ
output_after answer list (Err why) out = out
output_after answer list (Ok size) out = over (text_of answer list) 0 out

-- Document 01's numbers for each case: "a refusal returns its number and place, 0 for every other number"; success returns 0, place 0 and the length.
pub record Returned : Type 0 where
  pub number : ℕ
  pub place : ℕ
  pub size : ℕ

-- These numbers, by the case.
abbrev pub returned : Result ℕ Refusal → Returned
returned (Ok size) = record { number = 0; place = 0; size = size }
returned (Err why) = record { number = refusal_number why.reason; place = why.place; size = 0 }

-- The numbers that writing the two files returns.
abbrev pub write_numbers : List ℕ → List ℕ → ℕ → Returned
write_numbers answer list room = returned (spelled answer list room)

-- Both files are accepted, the answer with its n and the list with as many names.
pub record Accepted (answer list : List ℕ) : Type 0 where
  pub here : Cursor
  pub passes : Ok here ≡ file_tests answer
  pub taken : Ok (content_in answer).n ≡ checked list

-- What writing promises of its answer and of the output at the end.
pub record Spells (answer list out : List ℕ) (r : Result ℕ Refusal) (out' : List ℕ) : Type 0 where
  pub answers : r ≡ spelled answer list (length out)
  pub numbers : returned r ≡ write_numbers answer list (length out)
  pub output : out' ≡ output_after answer list r out
