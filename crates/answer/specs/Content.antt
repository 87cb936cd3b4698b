-- What an answer holds, and the file that holds it: "one head, its groups, its flips, one end" (document 01, "Records").
use Rattle.std.specs.Prelude.{List, [], ◌∷◌, ◌++◌, ℕ, zero, suc, ◌+◌, ◌*◌, get_or, take, replicate}
use Rattle.record.specs.Bytes.{number_at, bytes_of, over}
use Rattle.record.specs.Records as records
use Rattle.record.specs.Records.{record_of, record_bytes}
use Rattle.answer.specs.declared.Answer.{Answer}

-- The head's numbers; each group's taxa and split cost; each flipped column with its raised and lowered taxa.
pub record Content : Type 0 where
  pub n : ℕ
  pub m : ℕ
  pub groups : ℕ
  pub flips : ℕ
  pub total : ℕ
  pub taxa : List ℕ
  pub costs : List ℕ
  pub columns : List ℕ
  pub raised : List ℕ
  pub lowered : List ℕ

-- piece 0 ++ .. ++ piece (k - 1)
unfoldable pub run : (ℕ → List ℕ) → ℕ → List ℕ
run piece zero = []
run piece (suc k) = run piece k ++ piece k

-- g 0, .., g (k - 1)
abbrev pub numbers_of : (ℕ → ℕ) → ℕ → List ℕ
numbers_of g = run (λ i. g i ∷ [])

-- ---- the file of a content

-- "n, m, group count, flipped column count (2 each), total (4)".
unfoldable pub head_bytes : ℕ → ℕ → ℕ → ℕ → ℕ → List ℕ
head_bytes n m groups flips total =
    record_bytes (record_of records.answer_head) (bytes_of 2 n ++ bytes_of 2 m ++ bytes_of 2 groups ++ bytes_of 2 flips ++ bytes_of 4 total)

-- "Taxa (8), split cost (4)".
unfoldable pub group_bytes : ℕ → ℕ → List ℕ
group_bytes taxa cost = record_bytes (record_of records.group) (bytes_of 8 taxa ++ bytes_of 4 cost)

-- "Column (2), raised set (8), lowered set (8)".
unfoldable pub flips_bytes : ℕ → ℕ → ℕ → List ℕ
flips_bytes column raised lowered = record_bytes (record_of records.flips) (bytes_of 2 column ++ bytes_of 8 raised ++ bytes_of 8 lowered)

-- The end record, which has no payload.
unfoldable pub end_bytes : List ℕ
end_bytes = record_bytes (record_of records.answer_end) []

-- The record of group i.
abbrev pub group_record : List ℕ → List ℕ → ℕ → List ℕ
group_record taxa costs i = group_bytes (get_or taxa i 0) (get_or costs i 0)

-- The record of flips j.
abbrev pub flips_record : List ℕ → List ℕ → List ℕ → ℕ → List ℕ
flips_record columns raised lowered j = flips_bytes (get_or columns j 0) (get_or raised j 0) (get_or lowered j 0)

-- "An answer file is one head, its groups, its flips, one end."
unfoldable pub file_of : Content → List ℕ
file_of c =
    head_bytes c.n c.m c.groups c.flips c.total
    ++ run (group_record c.taxa c.costs) c.groups
    ++ run (flips_record c.columns c.raised c.lowered) c.flips
    ++ end_bytes

-- How long that is.
abbrev pub length_of : Content → ℕ
length_of c = 20 + 16 * c.groups + 22 * c.flips

-- ---- the content of a file: the head takes 16 bytes, each group's record 16, each flips record 22

-- The group count.
abbrev pub group_count : List ℕ → ℕ
group_count file = number_at 2 file 8

-- The flipped column count.
abbrev pub flip_count : List ℕ → ℕ
flip_count file = number_at 2 file 10

-- The taxa of the first groups.
unfoldable pub taxa_in : List ℕ → ℕ → List ℕ
taxa_in file = numbers_of (λ i. number_at 8 file (20 + 16 * i))

-- Their split costs.
unfoldable pub costs_in : List ℕ → ℕ → List ℕ
costs_in file = numbers_of (λ i. number_at 4 file (28 + 16 * i))

-- The columns of flips records, of which the first starts at a place.
unfoldable pub columns_from : List ℕ → ℕ → ℕ → List ℕ
columns_from file at = numbers_of (λ j. number_at 2 file (at + 22 * j + 4))

-- Their raised sets.
unfoldable pub raised_from : List ℕ → ℕ → ℕ → List ℕ
raised_from file at = numbers_of (λ j. number_at 8 file (at + 22 * j + 6))

-- Their lowered sets.
unfoldable pub lowered_from : List ℕ → ℕ → ℕ → List ℕ
lowered_from file at = numbers_of (λ j. number_at 8 file (at + 22 * j + 14))

-- Where the flips start.
abbrev pub flips_start : ℕ → ℕ
flips_start groups = 16 + 16 * groups

-- What a file says, whether it is lawful or not.
abbrev pub content_in : List ℕ → Content
content_in file =
    record {
      n = number_at 2 file 4;
      m = number_at 2 file 6;
      groups = group_count file;
      flips = flip_count file;
      total = number_at 4 file 12;
      taxa = taxa_in file (group_count file);
      costs = costs_in file (group_count file);
      columns = columns_from file (flips_start (group_count file)) (flip_count file);
      raised = raised_from file (flips_start (group_count file)) (flip_count file);
      lowered = lowered_from file (flips_start (group_count file)) (flip_count file);
    }

-- ---- the content of a value, and the value of a content: "a value with 63 places, those past the last 0"

-- "63 places, those past the last 0".
abbrev pub padded : List ℕ → List ℕ
padded xs = over xs 0 (replicate 63 0)

-- The value of a content, which has no flip list.
abbrev pub answer_of : Content → Answer
answer_of c =
    record {
      n = c.n;
      m = c.m;
      groups = c.groups;
      flips = c.flips;
      total = c.total;
      taxa = padded c.taxa;
      costs = padded c.costs;
    }

-- The content of a value and a flip list: "writing reads no place or list entry past the counts".
abbrev pub content_of : Answer → List ℕ → List ℕ → List ℕ → Content
content_of a columns raised lowered =
    record {
      n = a.n;
      m = a.m;
      groups = a.groups;
      flips = a.flips;
      total = a.total;
      taxa = take a.groups a.taxa;
      costs = take a.groups a.costs;
      columns = take a.flips columns;
      raised = take a.flips raised;
      lowered = take a.flips lowered;
    }
