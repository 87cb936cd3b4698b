-- Worked answers and lists, and what writing them comes to: the text, or the refusal and its place.
use mathlib.Core.Path.{◌≡◌, refl}
use mathlib.Core.List.{List, [], ◌∷◌, map}
use Prim.Native.Nat.{ℕ}
use Prim.Native.String.{String}
use lib.ListN.{length, replicate}
use Rattle.taxa.specs.Sum.{sum}
use Rattle.taxa.specs.Sets.{◌∩◌, ◌∖◌, within, mass, count, low}
use Rattle.record.specs.Bytes.{number_at, bytes_of}
use Rattle.record.specs.Records.{step, allowed, varying_step, finds, nothing_after, opening_of, record_bytes}
use Rattle.answer.specs.Content.{run, head_bytes, group_bytes, end_bytes, file_of, taxa_in, costs_in}
use Rattle.answer.specs.Rules.{counted, head_fault, follows, placed, compatible, compatible_all, group_fault}
use Rattle.answer.specs.Tests.{judge, walk, head_test, group_test, end_test, tests}
use Rattle.answer.specs.Reading.{file_tests}
use Rattle.record.specs.Bytes.{equal}
use Rattle.grammar.specs.Limits.{is_in}
use Rattle.grammar.specs.Trees.{tokens, file}
use Rattle.grammar.specs.Writer.{plain}
use Rattle.grammar.proofs.Specimens.{text}
use Rattle.clades.specs.Draw.{wider, part, parts, bracket, joined, draw}
use Rattle.names.specs.Names.{names_bytes, list_of, name_at}
use Rattle.names.specs.Check.{spelt, name_judged, name_passed, end_passed, listed_in, listed, checked}
use Rattle.spelling.specs.Write.{text_of, after_both, spelled, Returned, write_numbers}

-- The answer file of n taxa in groups, and the file of a list.
abbrev answer : ℕ → List ℕ → List ℕ
answer n gs = file_of (record {
  n = n;
  m = 0;
  groups = length gs;
  flips = 0;
  total = 0;
  taxa = gs;
  costs = replicate (length gs) 0;
  columns = [];
  raised = [];
  lowered = [];
})

abbrev list : List String → List ℕ
unfolding text
list ns = list_of (map text ns)

abbrev abc : List ℕ
abc = list ("A" ∷ "B" ∷ "C" ∷ [])

-- One taxon; a group inside a group; single taxa around a group; document 01's trap; longer names.
texts :
    text_of (answer 1 []) (list ("A" ∷ []))
    ∷ text_of (answer 3 (7 ∷ 6 ∷ [])) abc
    ∷ text_of (answer 4 (15 ∷ 6 ∷ [])) (list ("A" ∷ "B" ∷ "C" ∷ "D" ∷ []))
    ∷ text_of (answer 7 (127 ∷ 97 ∷ 6 ∷ 96 ∷ [])) (list ("A" ∷ "B" ∷ "C" ∷ "D" ∷ "E" ∷ "F" ∷ "G" ∷ []))
    ∷ text_of (answer 3 (7 ∷ 5 ∷ [])) (list ("Q.robur" ∷ "Q-alba" ∷ "Fagus_1" ∷ []))
    ∷ []
    ≡ map text ("A;" ∷ "(A,(B,C));" ∷ "(A,(B,C),D);" ∷ "((A,(F,G)),(B,C),D,E);" ∷ "((Q.robur,Fagus_1),Q-alba);" ∷ [])
unfolding text sum mass count ◌∩◌ ◌∖◌ within low number_at bytes_of opening_of record_bytes run head_bytes group_bytes end_bytes file_of taxa_in names_bytes list_of
    name_at step allowed varying_step finds nothing_after equal is_in spelt name_judged name_passed end_passed listed_in listed tokens file plain wider part parts
    bracket joined draw
texts = refl

abbrev says : ℕ → ℕ → ℕ → Returned
says number place size = record { number = number; place = place; size = size }

-- Room for just the text, and for one byte less; a name too few and one too many; a repeat in the list; and an answer that is refused before its list is.
numbers :
    write_numbers (answer 3 (7 ∷ 6 ∷ [])) abc 10
    ∷ write_numbers (answer 3 (7 ∷ 6 ∷ [])) abc 9
    ∷ write_numbers (answer 4 (15 ∷ [])) abc 9
    ∷ write_numbers (answer 2 (3 ∷ [])) abc 0
    ∷ write_numbers (answer 3 (7 ∷ [])) (list ("A" ∷ "B" ∷ "A" ∷ [])) 0
    ∷ write_numbers (answer 3 (7 ∷ 4 ∷ [])) [] 0
    ∷ []
    ≡ says 0 0 10 ∷ says 10 0 0 ∷ says 15 0 0 ∷ says 15 0 0 ∷ says 18 10 0 ∷ says 12 32 0 ∷ []
unfolding text sum mass count ◌∩◌ ◌∖◌ within low number_at bytes_of opening_of record_bytes run head_bytes group_bytes end_bytes file_of taxa_in costs_in names_bytes
    list_of name_at step allowed varying_step finds nothing_after equal is_in spelt name_judged name_passed end_passed listed_in listed checked tokens file plain
    wider part parts bracket joined draw counted head_fault follows placed compatible compatible_all group_fault judge walk head_test group_test end_test tests
    file_tests after_both spelled
numbers = refl
