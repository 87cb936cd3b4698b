-- Worked texts, and the bytes of the files that reading leaves of them.
use mathlib.Core.Path.{◌≡◌, refl}
use mathlib.Core.List.{List, [], ◌∷◌, ◌++◌}
use Prim.Native.Nat.{ℕ}
use Prim.Native.String.{String}
use Rattle.taxa.specs.Sets.{◌∪◌, ◌∖◌}
use Rattle.record.specs.Bytes.{bytes_of}
use Rattle.record.specs.Records.{opening_of, record_bytes}
use Rattle.record.specs.Bytes.{equal}
use Rattle.grammar.specs.Bytes.{mark}
use Rattle.grammar.specs.Limits.{is_in, seen, number}
use Rattle.grammar.specs.Reader.{ended, step, ending}
use Rattle.grammar.specs.Verdict.{named, judge, verdict}
use Rattle.grammar.specs.Clerk.{wrongs, keep, outcome}
use Rattle.grammar.proofs.Specimens.{text}
use Rattle.ledger.specs.Sets.{set_of}
use Rattle.matrix.specs.Matrix.{multiplicity_bytes, columns_bytes, file_of}
use Rattle.names.specs.Names.{names_bytes, list_of}
use Rattle.newick.specs.Read.{matrix_file, name_list}

-- A number below 256 in 2 bytes, and in 8.
abbrev two : ℕ → List ℕ
two x = x ∷ 0 ∷ []

abbrev eight : ℕ → List ℕ
eight x = x ∷ 0 ∷ 0 ∷ 0 ∷ 0 ∷ 0 ∷ 0 ∷ 0 ∷ []

-- A matrix file's head, a column of weight 1, and the end.
abbrev head : ℕ → ℕ → List ℕ
head n m = two 4 ++ two 1 ++ two n ++ two m

abbrev column : ℕ → ℕ → List ℕ
column ones zeros = two 18 ++ two 2 ++ two 1 ++ eight ones ++ eight zeros

abbrev end : List ℕ
end = two 0 ++ two 3

-- A name of a letter, and the list's end.
abbrev name : ℕ → List ℕ
name letter = two 1 ++ two 33 ++ letter ∷ []

abbrev list_end : List ℕ
list_end = two 0 ++ two 34

-- What is left of a text.
abbrev files : String → List ℕ × List ℕ
files s = (matrix_file (outcome (text s)), name_list (outcome (text s)))

-- A tree of one name; a vertex under the root; two trees, where D and E are unknown in the first one's column, and B in the second one's.
specimens : files "A;" ∷ files "((A,B),C);" ∷ files " ( A , ( B , C ) ) ;\r\n\t((D,(A,E)),C);" ∷ []
    ≡ (head 1 0 ++ end, name 65 ++ list_end)
    ∷ (head 3 1 ++ column 0b011 0b100 ++ end, name 65 ++ name 66 ++ name 67 ++ list_end)
    ∷ (
      head 5 3 ++ column 0b00110 0b00001 ++ column 0b11001 0b00100 ++ column 0b10001 0b01100 ++ end,
      name 65 ++ name 66 ++ name 67 ++ name 68 ++ name 69 ++ list_end,
    ) ∷ []
unfolding text mark ended step ending named judge verdict wrongs keep equal is_in seen number set_of ◌∪◌ ◌∖◌ bytes_of opening_of record_bytes multiplicity_bytes columns_bytes file_of names_bytes list_of
specimens = refl
