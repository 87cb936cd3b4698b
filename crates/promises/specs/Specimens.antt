-- Document 01's specimens marked P, and its trap of the walking order, on bytes: a table of what is asked and what is told.
use Rattle.std.specs.Prelude.{List, [], ◌∷◌, ◌++◌, ℕ, take, replicate}
use Rattle.matrix.specs.Check as matrix
use Rattle.split.specs.Columns.{matrix_in}
use Rattle.tree.specs.Build as tree
use Rattle.score.specs.Operation as scoring
use Rattle.promises.specs.Held.{many}

-- ---- bytes, written out here once more, so that the table also tries the definitions of files

-- A number below 256 in 2 bytes, "all little-endian".
abbrev two : ℕ → List ℕ
two x = x ∷ 0 ∷ []

-- In 4 bytes.
abbrev four : ℕ → List ℕ
four x = x ∷ 0 ∷ 0 ∷ 0 ∷ []

-- In 8 bytes.
abbrev eight : ℕ → List ℕ
eight x = x ∷ 0 ∷ 0 ∷ 0 ∷ 0 ∷ 0 ∷ 0 ∷ 0 ∷ []

-- A matrix head: "every record is length (2 bytes, payload only), kind (2 bytes), payload".
abbrev head : ℕ → ℕ → List ℕ
head n m = two 4 ++ two 1 ++ two n ++ two m

-- Multiplicities of three taxa: a record of kind 5.
abbrev merged : ℕ → ℕ → ℕ → List ℕ
merged a b c = two 3 ++ two 5 ++ (a ∷ b ∷ c ∷ [])

-- A column: weight, 1-set, 0-set.
abbrev column : ℕ → ℕ → ℕ → List ℕ
column weight ones zeros = two 18 ++ two 2 ++ two weight ++ eight ones ++ eight zeros

-- A matrix end.
abbrev end : List ℕ
end = two 0 ++ two 3

-- An answer head: n, m, group count, flipped column count, total.
abbrev answer_head : ℕ → ℕ → ℕ → ℕ → ℕ → List ℕ
answer_head n m groups flips total = two 12 ++ two 17 ++ two n ++ two m ++ two groups ++ two flips ++ four total

-- A group: taxa, split cost.
abbrev group : ℕ → ℕ → List ℕ
group taxa cost = two 12 ++ two 18 ++ eight taxa ++ four cost

-- A column's flips: raised set, lowered set.
abbrev flips : ℕ → ℕ → ℕ → List ℕ
flips column raised lowered = two 18 ++ two 19 ++ two column ++ eight raised ++ eight lowered

-- An answer end.
abbrev answer_end : List ℕ
answer_end = two 0 ++ two 20

-- ---- questions and answers

-- What is asked of the library, each with its bytes; the build with how many numbers of workspace it is lent.
pub data Asked : Type 0 where
  check : List ℕ → Asked
  build : ℕ → List ℕ → Asked
  score : List ℕ → List ℕ → Asked

-- What it tells: number and place of the refusal, the two numbers that a success returns, and the bytes written.
pub record Told : Type 0 where
  pub number : ℕ
  pub place : ℕ
  pub first : ℕ
  pub second : ℕ
  pub bytes : List ℕ

-- What the operations' definitions tell. The build is lent an output just as long as document 01 asks.
unfoldable pub tells : Asked → Told
tells (check file) = let r = matrix.check_numbers file in record { number = r.number; place = r.place; first = r.n; second = r.m; bytes = [] }
tells (build space file) =
    let M = matrix_in file in
    let room = tree.room_for M.taxa (many M) in
    let r = tree.built file space room in
    let it = tree.returned r in
    record { number = it.number; place = it.place; first = it.size; second = it.sum; bytes = take it.size (tree.output_after file r (replicate room 0)) }
tells (score file answer) = let r = scoring.score_numbers file answer in record { number = r.number; place = r.place; first = r.raises; second = r.lowers; bytes = [] }

-- ---- the table

-- What is asked, and what document 01, as document 02 changed it, says is told.
pub record Row : Type 0 where
  pub asked : Asked
  pub told : Told

-- A check that is refused.
abbrev refuses : List ℕ → ℕ → ℕ → Row
refuses file number place = record { asked = check file; told = record { number = number; place = place; first = 0; second = 0; bytes = [] } }

-- A check that is taken.
abbrev takes : List ℕ → ℕ → ℕ → Row
takes file n m = record { asked = check file; told = record { number = 0; place = 0; first = n; second = m; bytes = [] } }

-- A build that is taken, lent one number for each 1 of its matrix (document 02, C-13): how many that are, its length, its total, and its answer file.
abbrev answers : ℕ → List ℕ → ℕ → ℕ → List ℕ → Row
answers space file size total bytes = record { asked = build space file; told = record { number = 0; place = 0; first = size; second = total; bytes = bytes } }

-- A build that is refused for its workspace.
abbrev lacks : ℕ → List ℕ → Row
lacks space file = record { asked = build space file; told = record { number = 9; place = 0; first = 0; second = 0; bytes = [] } }

-- A score.
abbrev scores : List ℕ → List ℕ → ℕ → ℕ → Row
scores file answer raises lowers = record { asked = score file answer; told = record { number = 0; place = 0; first = raises; second = lowers; bytes = [] } }

-- Specimen 1's matrix, "78 bytes in, an answer file of 112 bytes".
abbrev pub first : List ℕ
first = head 4 3 ++ column 1 0b0011 0b1100 ++ column 1 0b0110 0b1001 ++ column 2 0b1100 0b0011 ++ end

-- Its answer file.
abbrev first_answer : List ℕ
first_answer = answer_head 4 3 3 2 2 ++ group 0xf 1 ++ group 0xe 1 ++ group 0xc 0 ++ flips 0 0 0b0001 ++ flips 1 0b1000 0 ++ answer_end

-- Specimen 7's matrix.
abbrev pub seventh : List ℕ
seventh = head 2 1 ++ column 5 0 0b11 ++ end

-- Its answer file.
abbrev pub seventh_answer : List ℕ
seventh_answer = answer_head 2 1 1 0 0 ++ group 3 0 ++ answer_end

-- The specimens, by number.
abbrev pub table : List Row
table =
    -- 1
    answers 6 first 112 2 first_answer
    ∷ lacks 5 first
    ∷ scores first first_answer 0 2
    -- "One flip would do, so total is not the least overall": with taxon 1 lowered in column 1, of weight 1, there is nothing left to flip.
    ∷ answers 5 (head 4 3 ++ column 1 0b0011 0b1100 ++ column 1 0b0100 0b1011 ++ column 2 0b1100 0b0011 ++ end) 68 0
    (answer_head 4 3 3 0 0 ++ group 0xf 0 ++ group 3 0 ++ group 0xc 0 ++ answer_end)
    -- 2
    ∷ answers 4 (head 3 2 ++ column 1 0b011 0b100 ++ column 1 0b110 0b001 ++ end) 74 1
    (answer_head 3 2 2 1 1 ++ group 7 1 ++ group 6 0 ++ flips 0 0b100 0 ++ answer_end)
    -- 2 with multiplicities 1, 1, 2 (document 02's C-14): to raise taxon 2 in column 0 would weigh 2, to lower taxon 0 there weighs 1.
    ∷ answers 4 (head 3 2 ++ merged 1 1 2 ++ column 1 0b011 0b100 ++ column 1 0b110 0b001 ++ end) 74 1
    (answer_head 3 2 2 1 1 ++ group 7 1 ++ group 6 0 ++ flips 0 0 0b001 ++ answer_end)
    -- 3
    ∷ answers 4 (head 3 2 ++ column 2 0b011 0b100 ++ column 1 0b110 0b001 ++ end) 74 1
    (answer_head 3 2 2 1 1 ++ group 7 1 ++ group 3 0 ++ flips 1 0b001 0 ++ answer_end)
    -- 4
    ∷ answers 5 (head 4 2 ++ column 1 0b0111 0b1000 ++ column 3 0b1100 0b0011 ++ end) 74 1
    (answer_head 4 2 2 1 1 ++ group 0xf 1 ++ group 0xc 0 ++ flips 0 0b1000 0 ++ answer_end)
    -- 5
    ∷ answers 3 (head 3 1 ++ column 1 0b111 0 ++ end) 36 0 (answer_head 3 1 1 0 0 ++ group 7 0 ++ answer_end)
    -- 6
    ∷ answers 0 (head 1 0 ++ end) 20 0 (answer_head 1 0 0 0 0 ++ answer_end)
    -- 7, its score as of document 02's C-12
    ∷ answers 0 seventh 36 0 seventh_answer
    ∷ scores seventh seventh_answer 0 0
    -- "{0,5,6}, {5,6}, {1,2} is one [walking order], yet {1,2} precedes {5,6} here."
    ∷ answers 7 (head 7 3 ++ column 1 0x61 0x1e ++ column 1 0x60 0x1f ++ column 1 0x06 0x79 ++ end) 84 0
    (answer_head 7 3 4 0 0 ++ group 0x7f 0 ++ group 0x61 0 ++ group 0x06 0 ++ group 0x60 0 ++ answer_end)
    -- C-13: one taxon with a 1 needs a number, though nothing is split.
    ∷ answers 1 (head 1 1 ++ column 1 0b1 0 ++ end) 20 0 (answer_head 1 1 0 0 0 ++ answer_end)
    ∷ lacks 0 (head 1 1 ++ column 1 0b1 0 ++ end)
    -- 8
    ∷ refuses [] 1 0
    ∷ refuses (head 65 0 ++ end) 3 0
    ∷ takes (head 64 0 ++ end) 64 0
    -- C-14: taken; refused where all are 1, where one is 0, for a sum of 128, a length that is not n, and a second record.
    ∷ takes (head 3 0 ++ merged 1 1 2 ++ end) 3 0
    ∷ refuses (head 3 0 ++ merged 1 1 1 ++ end) 21 8
    ∷ refuses (head 3 0 ++ merged 1 0 2 ++ end) 21 8
    ∷ refuses (head 3 0 ++ merged 126 1 1 ++ end) 21 8
    ∷ refuses (head 2 0 ++ merged 1 1 2 ++ end) 2 8
    ∷ refuses (head 3 0 ++ merged 1 1 2 ++ merged 1 1 2 ++ end) 2 15
    -- 9
    ∷ refuses (take 77 first) 1 74
    ∷ refuses (first ++ (0 ∷ [])) 8 78
    ∷ []
