-- The file of a list: without names (`list_none`), with a first name (`list_first`), with names and more (`names_append`); how long it is (`length_list`).
use mathlib.Core.Path.{◌≡◌, refl, sym, ap, ◌∙◌}
use mathlib.Core.List.{List, [], ◌∷◌, ◌++◌, append_assoc}
use lib.ListN.{length, length-append}
use Rattle.grammar.specs.Columns.{Bytes}
use Rattle.record.specs.Records as records
use Rattle.record.specs.Records.{record_of}
use Rattle.record.proofs.Files.{length_record}
use Rattle.names.specs.Names.{name_record, name_bytes, names_bytes, end_bytes, list_of, list_length}

pub list_none : list_of [] ≡ end_bytes
unfolding list_of names_bytes
list_none = refl

pub list_first : (n : Bytes) (ns : List Bytes) → list_of (n ∷ ns) ≡ name_bytes n ++ list_of ns
unfolding list_of names_bytes
list_first n ns = append_assoc (name_bytes n) (names_bytes ns) end_bytes

pub names_append : (ns ms : List Bytes) → names_bytes (ns ++ ms) ≡ names_bytes ns ++ names_bytes ms
unfolding names_bytes
names_append [] ms = refl
names_append (n ∷ ns) ms = ap (◌++◌ (name_bytes n)) (names_append ns ms) ∙ sym (append_assoc (name_bytes n) (names_bytes ns) (names_bytes ms))

pub length_list : (ns : List Bytes) → length (list_of ns) ≡ list_length ns
unfolding list_length
length_list [] = rw list_none (length_record (record_of records.names_end) [])
length_list (n ∷ ns) = rw (list_first n ns, length-append (name_bytes n) (list_of ns), length_record (name_record n) n, length_list ns)
