-- How C takes a packed number apart, as the functions of include/flipcut.h do, into the numbers that document 01 has an operation return.
use Rattle.std.specs.Prelude.{Bool, cond, List, ℕ, ◌+◌, ◌/◌, ◌%◌, ◌^◌, eqb, get_or}
use Rattle.matrix.specs.Check as check
use Rattle.answer.specs.declared.Answer.{Answer}
use Rattle.answer.specs.Content.{numbers_of, answer_of}
use Rattle.answer.specs.Reading as reading
use Rattle.answer.specs.Writing as writing
use Rattle.split.specs.Operation as split
use Rattle.tree.specs.Build as build
use Rattle.score.specs.Operation as score
use Rattle.names.specs.Check as names
use Rattle.newick.specs.Read as newick
use Rattle.spelling.specs.Write as spelling
use Rattle.flipcut.specs.Packed.{groups_at, costs_at}

-- The bits of a packed number from `low` on, `width` of them.
abbrev pub bits : ℕ → ℕ → ℕ → ℕ
bits v low width = v / 2 ^ low % 2 ^ width

-- Whether the call was refused.
abbrev pub refused_in : ℕ → Bool
refused_in v = eqb (bits v 63 1) 1

-- The refusal's number, 0 on success.
unfoldable pub number_in : ℕ → ℕ
number_in v = cond (refused_in v) (bits v 0 8) 0

-- Its place, 0 on success.
unfoldable pub place_in : ℕ → ℕ
place_in v = cond (refused_in v) (bits v 8 55) 0

-- A result that stands in some bits, 0 on a refusal.
unfoldable pub result_in : ℕ → ℕ → ℕ → ℕ
result_in v low width = cond (refused_in v) 0 (bits v low width)

-- A result that stands in numbers that were lent for it, and `none` on a refusal.
unfoldable pub lent_result : {X : Type 0} → ℕ → X → X → X
lent_result v none lent = cond (refused_in v) none lent

-- The number, the place, n and m of a packed check.
abbrev pub unpacked : ℕ → check.Returned
unpacked v = record { number = number_in v; place = place_in v; n = result_in v 0 16; m = result_in v 16 16 }

-- The number, the place, the length written and the total of a packed build.
abbrev pub unpacked_build : ℕ → build.Returned
unpacked_build v = record { number = number_in v; place = place_in v; size = result_in v 32 31; sum = result_in v 0 32 }

-- The number, the place, the cost, the side A and t of a packed split and its three numbers.
abbrev pub unpacked_split : ℕ → List ℕ → split.Returned
unpacked_split v result =
    let at : ℕ → ℕ = λ k. lent_result v 0 (get_or result k 0) in
    record { number = number_in v; place = place_in v; cost = at 0; side = at 1; t = at 2 }

-- The value that a reading's 131 numbers are.
abbrev pub value_in : List ℕ → Answer
value_in result =
    let at : ℕ → ℕ = λ k. get_or result k 0 in
    record {
      n = at 0;
      m = at 1;
      groups = at 2;
      flips = at 3;
      total = at 4;
      taxa = numbers_of (λ i. at (groups_at + i)) 63;
      costs = numbers_of (λ i. at (costs_at + i)) 63;
    }

-- The number, the place and the value of a packed reading and its numbers.
abbrev pub unpacked_read : ℕ → List ℕ → reading.Returned
unpacked_read v result = record { number = number_in v; place = place_in v; answer = lent_result v (answer_of reading.empty) (value_in result) }

-- The number, the place and the length of a packed writing.
abbrev pub unpacked_write : ℕ → writing.Returned
unpacked_write v = record { number = number_in v; place = place_in v; size = result_in v 32 31 }

-- The number, the place, raises and lowers of a packed score.
abbrev pub unpacked_score : ℕ → score.Returned
unpacked_score v = record { number = number_in v; place = place_in v; raises = result_in v 31 31; lowers = result_in v 0 31 }

-- The number, the place and how many names of a packed check of a name list.
abbrev pub unpacked_names : ℕ → names.Returned
unpacked_names v = record { number = number_in v; place = place_in v; count = result_in v 0 63 }

-- The number, the place and both lengths of packed source trees.
abbrev pub unpacked_trees : ℕ → newick.Returned
unpacked_trees v = record { number = number_in v; place = place_in v; matrix = result_in v 32 31; names = result_in v 0 32 }

-- The number, the place and the length of a packed text.
abbrev pub unpacked_text : ℕ → spelling.Returned
unpacked_text v = record { number = number_in v; place = place_in v; size = result_in v 32 31 }
