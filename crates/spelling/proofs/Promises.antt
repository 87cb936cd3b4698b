-- What the text of an accepted answer and an accepted list of as many names says. Where there is room, it is written (`written_out`, `never_longer`). It
-- spells one tree (`spells_one_tree`), with the names of the list (`names_of_the_list`), whose clades of names are exactly the answer's groups
-- (`clades_are_groups`), parts by lowest taxon (`shows_the_groups`), as no other tree's are (`only_tree`); and it reads back to that tree (`reads_back`).
use mathlib.Core.Path.{◌≡◌, refl, ap, ◌∙◌}
use mathlib.Core.Logic.{◌↔◌}
use mathlib.Core.List.{List}
use Prim.Native.Nat.{ℕ, ◌+◌, ◌*◌, ◌≤◌}
use lib.ListN.{length, take}
use borrow.Author.Tests.{eq-eqb, le-ltb}
use Rattle.std.specs.Prelude.{Result, Ok}
use Rattle.taxa.specs.Sets.{all}
use Rattle.taxa.proofs.Members.{all_fits}
use Rattle.record.specs.Bytes.{File}
use Rattle.answer.specs.Content.{Content, content_in}
use Rattle.answer.specs.Lawful.{Lawful}
use Rattle.answer.proofs.Accepted.{taken_lawful}
use Rattle.answer.proofs.Runs.{front_is}
use Rattle.grammar.specs.Trees.{Tree, one}
use Rattle.grammar.specs.Text.{Newick}
use Rattle.grammar.specs.Columns.{Bytes, names, all_columns}
use Rattle.grammar.specs.Limits.{taxa}
use Rattle.grammar.specs.Verdict.{accepted}
use Rattle.grammar.specs.Clerk.{outcome}
use Rattle.grammar.proofs.Tallies.{between}
use Rattle.grammar.proofs.Writing.{written_spells}
use Rattle.clades.specs.Shows.{Groups, Shows}
use Rattle.clades.specs.Clades.{NamesFor, Names, IsClade, IsGroup}
use Rattle.clades.proofs.Clades.{shown_names}
use Rattle.clades.proofs.Drawn.{drawn_shows}
use Rattle.clades.proofs.Only as trees
use Rattle.clades.proofs.Exactly.{clades_exactly}
use Rattle.clades.proofs.Back as back
use Rattle.record.specs.declared.refusal.Refusal.{Refusal}
use Rattle.spelling.specs.Write.{name_in, tree_of, text_of, after_both, spelled, output_after, Accepted, Spells}
use Rattle.spelling.proofs.Accepted.{lawful_groups, lawful_root, lawful_inside, names_for}
use Rattle.spelling.proofs.Lengths.{text_short}

module _ {answer list : List ℕ} (f : File answer) (a : Accepted answer list) where
  abbrev c : Content
  c = content_in answer

  lawful : Lawful c
  lawful = taken_lawful answer a.passes f

  groups : Groups c.taxa
  groups = lawful_groups lawful

  few : c.n ≤ 64
  few = lawful.head_lawful.few_taxa

  named : NamesFor (name_in list) (all c.n)
  named = names_for list a.taken

  -- "parts by lowest taxon".
  pub shows_the_groups : Shows (name_in list) c.taxa (all c.n) (tree_of answer list)
  shows_the_groups = drawn_shows groups (name_in list) (lawful_root lawful) (all_fits 64 few)

  pub only_tree : {t : Tree} → Shows (name_in list) c.taxa (all c.n) t → t ≡ tree_of answer list
  only_tree s = trees.only groups s shows_the_groups

  pub spells_one_tree : Newick (text_of answer list) (one (tree_of answer list))
  spells_one_tree = written_spells (one (tree_of answer list)) (back.named few groups.laminar named shows_the_groups)

  pub names_of_the_list : Names (name_in list) (all c.n) (names (tree_of answer list))
  names_of_the_list = shown_names shows_the_groups

  -- A set of names is a clade of the tree exactly when it is the names of a group of the answer.
  pub clades_are_groups : (ns : List Bytes) → IsClade (tree_of answer list) ns ↔ IsGroup (name_in list) c.taxa ns
  clades_are_groups = clades_exactly groups (λ G g. lawful_inside lawful g) shows_the_groups

  -- "what it writes reads back to the same clades of names".
  pub reads_back : let ts = one (tree_of answer list) in outcome (text_of answer list) ≡ accepted ts (between (taxa ts) (all_columns ts))
  reads_back = back.reads_back few groups.laminar named shows_the_groups

  -- A caller who lends this much has room.
  pub never_longer : length (text_of answer list) ≤ 64 * 32 + 63 * 2 + 64
  never_longer = text_short few groups.laminar named shows_the_groups

  -- Where there is room, it is what the output begins with.
  pub written_out : {out out' : List ℕ} {r : Result ℕ Refusal} → Spells answer list out r out' → length (text_of answer list) ≤ length out
      → (r ≡ Ok (length (text_of answer list))) × (take (length (text_of answer list)) out' ≡ text_of answer list)
  unfolding spelled after_both output_after
  written_out {out} {r = r} s l =
      let size = length (text_of answer list) in
      let e : r ≡ Ok size = s.answers ∙ rw (← a.passes, ← a.taken, eq-eqb c.n c.n refl, le-ltb (length out) size l) in
      (e, ap (take size) (s.output ∙ ap (λ (x : Result ℕ Refusal). output_after answer list x out) e) ∙ front_is (text_of answer list) out size refl)
