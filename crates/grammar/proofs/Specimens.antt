-- Worked texts and what reading them comes to: the refusal and its place, or the columns and taxa.
use mathlib.Core.Path.{◌≡◌, refl}
use mathlib.Core.List.{List, [], ◌∷◌, ◌++◌, map}
use Prim.Native.Nat.{ℕ, zero, suc, ◌+◌, ◌/◌, ◌%◌}
use Prim.Native.Char.{code}
use Prim.Native.String.{String}
use Prim.Native.String as string
use Rattle.grammar.specs.Bytes.{mark}
use Rattle.grammar.specs.Columns.{Column}
use Rattle.record.specs.Bytes.{equal}
use Rattle.grammar.specs.Limits.{is_in, seen}
use Rattle.grammar.specs.Reader.{ended, step, ending}
use Rattle.grammar.specs.Verdict.{Verdict, accepted, refused, named, judge, verdict}
use Rattle.grammar.specs.Clerk.{Tally, wrongs, keep, outcome}

-- The bytes of a text in ASCII.
unfoldable pub text : String → List ℕ
text string.[] = []
text (string.◌∷◌ c s) = code c ∷ text s

record Place : Type 0 where
  number : ℕ
  place : ℕ

abbrev at : ℕ → ℕ → Place
at r p = record { number = r; place = p }

-- The refusal of a text, or 0.
abbrev say : Verdict Tally → Place
say (accepted ts y) = at 0 0
say (refused r p) = at r p

abbrev says : String → Place
unfolding text
says s = say (outcome (text s))

-- 16, "at the first byte that cannot stand there or the file's end".
grammar : map says ("" ∷ " \n" ∷ ";" ∷ "A;;" ∷ "a(b,c);" ∷ "A B;" ∷ "(A);" ∷ "();" ∷ "(A,);" ∷ "A,B;"
    ∷ "(A,B));" ∷ "(A,B)C;" ∷ "(A:1,B);" ∷ "A" ∷ "A " ∷ "(A,B)" ∷ "A; B" ∷ [])
    ≡ at 16 0 ∷ at 16 2 ∷ at 16 0 ∷ at 16 2 ∷ at 16 1 ∷ at 16 2 ∷ at 16 2 ∷ at 16 1 ∷ at 16 3 ∷ at 16 1
    ∷ at 16 5 ∷ at 16 5 ∷ at 16 2 ∷ at 16 1 ∷ at 16 2 ∷ at 16 5 ∷ at 16 4 ∷ []
unfolding text mark ended step ending named judge verdict wrongs keep equal is_in seen
grammar = refl

-- A name is read to its end before it is judged; 32 bytes and then `*` are 16, 33 bytes are 17, however long the name goes on.
repeats : map says ("(A,AB);" ∷ "(A,A" ∷ "(A,A*" ∷ "(A,B)A;" ∷ "A;A;"
    ∷ "12345678901234567890123456789012*" ∷ "123456789012345678901234567890123*" ∷ "A123456789012345678901234567890123" ∷ [])
    ≡ at 0 0 ∷ at 18 3 ∷ at 18 3 ∷ at 16 5 ∷ at 0 0 ∷ at 16 32 ∷ at 17 32 ∷ at 17 32 ∷ []
unfolding text mark ended step ending named judge verdict wrongs keep equal is_in seen
repeats = refl

-- Names 00, 01, 02, .. with commas.
many : ℕ → List ℕ
many zero = []
many (suc k) = many k ++ (48 + k / 10) ∷ (48 + k % 10) ∷ 44 ∷ []

times : ℕ → List ℕ → List ℕ
times zero s = []
times (suc k) s = s ++ times k s

abbrev tells : List ℕ → Place
tells s = say (outcome s)

-- 64 names are taken and the 65th is refused, even if a wrong byte follows; so is the 257th bracket under a root; 64 brackets may be open.
limits : tells (text "(" ++ many 64 ++ text "00") ∷ tells (text "(" ++ many 64 ++ text "9*") ∷ tells (text "(" ++ many 64 ++ text "((((")
    ∷ tells (times 64 (text "(")) ∷ tells (times 65 (text "(")) ∷ []
    ≡ at 18 193 ∷ at 19 193 ∷ at 16 197 ∷ at 16 64 ∷ at 20 64 ∷ []
unfolding text many times mark ended step ending named judge verdict wrongs keep equal is_in seen
limits = refl

many_columns : tells (times 256 (text "(A,(B,C));")) ∷ tells (times 256 (text "(A,(B,C));") ++ text "(A,(") ∷ [] ≡ at 0 0 ∷ at 19 2563 ∷ []
unfolding text many times mark ended step ending named judge verdict wrongs keep equal is_in seen
many_columns = refl

-- A too long 65th name is 17; where no name can stand it is 16, and so is a bracket there; 19 beats 20 on one bracket.
clashes : tells (text "(" ++ many 64 ++ text "A12345678901234567890123456789012") ∷ tells (text "A A12345678901234567890123456789012")
    ∷ tells (text "A(" ++ times 70 (text "("))
    ∷ tells (times 193 (text "(A,(B,C));") ++ times 65 (text "(")) ∷ tells (times 192 (text "(A,(B,C));") ++ times 65 (text "(")) ∷ []
    ≡ at 17 225 ∷ at 16 2 ∷ at 16 1 ∷ at 19 1994 ∷ at 20 1984 ∷ []
unfolding text many times mark ended step ending named judge verdict wrongs keep equal is_in seen
clashes = refl

-- Letters are ASCII, and names differ by case: a byte-order mark, a byte from 128 up, 0, a vertical tab and a form feed are 16.
other_bytes : tells (0xef ∷ 0xbb ∷ 0xbf ∷ text "A;") ∷ tells (text "A" ++ 128 ∷ []) ∷ tells (text "A" ++ 0 ∷ [])
    ∷ tells (text "A;" ++ 11 ∷ []) ∷ tells (text "A;" ++ 12 ∷ []) ∷ tells (text "(A,a);") ∷ []
    ≡ at 16 0 ∷ at 16 1 ∷ at 16 1 ∷ at 16 2 ∷ at 16 2 ∷ at 0 0 ∷ []
unfolding text mark ended step ending named judge verdict wrongs keep equal is_in seen
other_bytes = refl

-- What is kept of a text.
abbrev keeps : Verdict Tally → List Column × List (List ℕ)
keeps (accepted ts y) = (y.columns, y.taxa)
keeps (refused r p) = ([], [])

columns : keeps (outcome (text "((A,B),C); (D,(C,(B,E)));"))
    ≡ (
      record { ones = text "A" ∷ text "B" ∷ []; tree = text "A" ∷ text "B" ∷ text "C" ∷ [] }
          ∷ record { ones = text "C" ∷ text "B" ∷ text "E" ∷ []; tree = text "D" ∷ text "C" ∷ text "B" ∷ text "E" ∷ [] }
          ∷ record { ones = text "B" ∷ text "E" ∷ []; tree = text "D" ∷ text "C" ∷ text "B" ∷ text "E" ∷ [] } ∷ [],
      text "A" ∷ text "B" ∷ text "C" ∷ text "D" ∷ text "E" ∷ [],
    )
unfolding text mark ended step ending named judge verdict wrongs keep equal is_in seen
columns = refl
