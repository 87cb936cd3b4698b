-- What the functions that spell a tree hand to each other.
use Rattle.std.specs.Prelude.{◌≡◌, cond, List, [], ◌∷◌, ◌++◌, ℕ, ◌+◌, ◌^◌, ◌≤◌, ◌<◌, eqb, length, take, Ok}
use Rattle.taxa.specs.Sets.{all}
use Rattle.record.specs.Bytes.{over}
use Rattle.record.specs.declared.Cursor.{Cursor}
use Rattle.answer.specs.declared.Answer.{Answer}
use Rattle.answer.specs.Reading.{file_tests}
use Rattle.grammar.specs.Bytes.{byte, right, comma}
use Rattle.grammar.specs.Trees.{Tree, one, tokens}
use Rattle.grammar.specs.Writer.{plain, written}
use Rattle.clades.specs.Draw.{parts, drawn}
use Rattle.names.specs.Check.{names_in, checked}
use Rattle.spelling.specs.Write.{name_in}

-- The text of a subtree.
unfoldable pub subtext : Tree → List ℕ
subtext t = plain (tokens t [])

-- That of a set of taxa as drawn.
abbrev pub spelling : List ℕ → List ℕ → ℕ → List ℕ
spelling gs list S = subtext (drawn (name_in list) gs S)

-- The byte after a part, by what is left of the set.
abbrev pub closing : ℕ → ℕ
closing left = cond (eqb left 0) (byte right) (byte comma)

-- The byte after a text, by the texts that follow: a comma, or the closing bracket.
abbrev pub after : List ℕ → ℕ
after [] = byte right
after (P ∷ Ps) = byte comma

-- The texts of a bracket, each with that byte.
unfoldable pub listed : (ℕ → List ℕ) → List ℕ → List ℕ
listed text [] = []
listed text (P ∷ Ps) = text P ++ after Ps ∷ listed text Ps

-- The parts of S that are left, from R on.
abbrev pub parts_text : List ℕ → List ℕ → ℕ → ℕ → List ℕ
parts_text gs list S R = listed (spelling gs list) (parts gs S 64 R)

-- There is a taxon with a name, and room for it.
pub record Nameable (list : List ℕ) (taxon at : ℕ) (text : List ℕ) : Type 0 where
  pub named : taxon < length (names_in list)
  pub room : at + length (name_in list taxon) ≤ length text

-- There is a set with names for all its taxa, and room for its text.
pub record Spellable (list : List ℕ) (S at : ℕ) (s text : List ℕ) : Type 0 where
  pub some : 0 < S
  pub named : S < 2 ^ length (names_in list)
  pub room : at + length s ≤ length text

-- The whole text of n taxa in groups.
abbrev pub text_for : List ℕ → List ℕ → ℕ → List ℕ
text_for gs list n = written (one (drawn (name_in list) gs (all n)))

-- The groups of an answer's value.
abbrev pub groups_of : Answer → List ℕ
groups_of a = take a.groups a.taxa

-- Both files were read.
pub record Readable (answer list : List ℕ) (count : ℕ) : Type 0 where
  pub here : Cursor
  pub passes : Ok here ≡ file_tests answer
  pub taken : Ok count ≡ checked list

-- A value of an answer, names for its taxa, and room for its text.
pub record Tellable (a : Answer) (list text : List ℕ) : Type 0 where
  pub placed : a.groups ≤ length a.taxa
  pub some : 1 ≤ a.n
  pub few : a.n ≤ 64
  pub named : length (names_in list) ≡ a.n
  pub room : length (text_for (groups_of a) list a.n) ≤ length text

-- The text s was put at a place, and the end is right after it.
pub record Put (s : List ℕ) (at : ℕ) (old new : List ℕ) (end : ℕ) : Type 0 where
  pub is : new ≡ over s at old
  pub ends : end ≡ at + length s
