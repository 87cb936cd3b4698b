-- The flip list as "a lent list of entries, each a column with its raised and lowered taxa" (document 01, "Operations and refusals").
use Rattle.std.specs.Prelude.{◌≡◌, List, [], ◌∷◌, ◌++◌, map, ℕ, length, drop, Result, Ok, Err}
use Rattle.answer.specs.Content.{Content, content_in, content_of}
use Rattle.answer.specs.Reading.{reading, returned, read_numbers}
use Rattle.answer.specs.Writing.{Writes}
use Rattle.answer.specs.declared.Answer.{Answer}
use Rattle.entries.specs.declared.Flip.{Flip}
use Rattle.record.specs.declared.refusal.Refusal.{Refusal}

-- Three lists as one of entries, as long as the shortest.
abbrev pub zipped : List ℕ → List ℕ → List ℕ → List Flip
zipped [] us ds = []
zipped (c ∷ cs) [] ds = []
zipped (c ∷ cs) (u ∷ us) [] = []
zipped (c ∷ cs) (u ∷ us) (d ∷ ds) = record { column = c; raised = u; lowered = d } ∷ zipped cs us ds

-- The entries' columns.
abbrev pub entry_columns : List Flip → List ℕ
entry_columns ys = map (λ (f : Flip). f.column) ys

-- Their raised taxa.
abbrev pub entry_raised : List Flip → List ℕ
entry_raised ys = map (λ (f : Flip). f.raised) ys

-- Their lowered taxa.
abbrev pub entry_lowered : List Flip → List ℕ
entry_lowered ys = map (λ (f : Flip). f.lowered) ys

-- The entries of an answer.
abbrev pub entries_of : Content → List Flip
entries_of c = zipped c.columns c.raised c.lowered

-- The content of a value and a list of entries.
abbrev pub entry_content : Answer → List Flip → Content
entry_content a list = content_of a (entry_columns list) (entry_raised list) (entry_lowered list)

-- What is stored: all of it if the file is taken, nothing on a refusal.
abbrev pub stored : {X : Type 0} → Result Answer Refusal → List X → List X
stored (Ok answer) new = new
stored (Err why) new = []

-- What reading promises of its answer and of the lent list: "list entries past the last stay as they were", on a refusal all.
pub record ReadsEntries (file : List ℕ) (list : List Flip) (r : Result Answer Refusal) (list' : List Flip) : Type 0 where
  pub answers : r ≡ reading file (length list)
  pub numbers : returned r ≡ read_numbers file (length list)
  pub list_after : list' ≡ stored r (entries_of (content_in file)) ++ drop (length (stored r (entries_of (content_in file)))) list

-- What writing promises of its answer and of the output: what writing the content of the value and the list promises.
abbrev pub WritesEntries : Answer → List Flip → List ℕ → Result ℕ Refusal → List ℕ → Type 0
WritesEntries a list out r out' = Writes (entry_content a list) (length list) out r out'
