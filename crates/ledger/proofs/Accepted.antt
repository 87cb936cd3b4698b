-- What is accepted has taxa, names and columns that are legal (`accepted_legal`).
use mathlib.Core.Path.{◌≡◌, refl}
use mathlib.Core.Bool.{Bool, true, false, cond}
use mathlib.Core.Logic.{◌⊎◌, inl, inr, ⊎_elim}
use mathlib.Core.List.Memᴰ
use mathlib.Core.List.{List, [], ◌∷◌, ◌++◌, Memᴰ}
use Prim.Native.Nat.{ℕ, ◌≤◌, ◌<◌}
use native.Mathlib.Omega.{arith}
use lib.ListN.{length}
use Rattle.taxa.specs.Sets.{◌⊆◌, ◌∩◌, all}
use Rattle.taxa.proofs.Members.{in∖, disjoint_∩, ⊆-trans, ∖-⊆}
use Rattle.grammar.specs.Trees.{Tree, Trees, leaf, inner, one, then}
use Rattle.grammar.specs.Columns.{Bytes, Column, names, all_names}
use Rattle.grammar.specs.Limits.{is_in, seen, taxa, Distinct, end}
use Rattle.grammar.specs.Verdict.{accepted}
use Rattle.grammar.specs.Clerk.{Tally, outcome}
use Rattle.grammar.proofs.Numbering.{number_at, seen_has, seen_distinct}
use Rattle.grammar.proofs.Reading.{reads_only}
use Rattle.grammar.proofs.Writing.{Named, spelt_names}
use Rattle.ledger.specs.Sets.{set_of, ones_of, zeros_of}
use Rattle.ledger.proofs.Sets.{Among, set_known}
use Rattle.ledger.proofs.Outcomes.{accepted_orderly}

-- A column's 1-set and 0-set are of the taxa, and no taxon is in both.
pub record LegalSets (taxa : List Bytes) (c : Column) : Type 0 where
  pub ones_known : ones_of taxa c ⊆ all (length taxa)
  pub zeros_known : zeros_of taxa c ⊆ all (length taxa)
  pub apart : ones_of taxa c ∩ zeros_of taxa c ≡ 0

pub record LegalTally (x : Tally) : Type 0 where
  pub some_taxa : 0 < length x.taxa
  pub taxa_fit : length x.taxa ≤ 64
  pub differ : Distinct [] x.taxa
  pub named : Named x.taxa
  pub short : (n : Bytes) → Memᴰ n x.taxa → length n ≤ 32
  pub columns_fit : length x.columns ≤ 256
  -- The names under a vertex are of its tree, whose names are of the file.
  pub trees : (c : Column) → Memᴰ c x.columns → Among x.taxa c.tree × Among c.tree c.ones
  pub columns : (c : Column) → Memᴰ c x.columns → LegalSets x.taxa c

-- ---- names

last_name : (t : Tree) → (n : Bytes) × Memᴰ n (names t)
unfolding names
last_name (leaf n) = (n, Memᴰ.head refl)
last_name (inner ts t) = let (n, m) = last_name t in (n, Memᴰ.append_right (all_names ts) m)

some_name : (ts : Trees) → (n : Bytes) × Memᴰ n (all_names ts)
unfolding names
some_name (one t) = last_name t
some_name (then ts t) = let (n, m) = last_name t in (n, Memᴰ.append_right (all_names ts) m)

-- What is seen is of the one list or of the other.
of_seen : {n : Bytes} (ns ms : List Bytes) → Memᴰ n (seen ns ms) → Memᴰ n ns ⊎ Memᴰ n ms
unfolding seen
of_seen ns [] l = inl l
of_seen {n} ns (m ∷ ms) l = ⊎_elim (with (is_in m ns)) (λ h. inr (Memᴰ.tail h)) (of_seen (cond (is_in m ns) ns (ns ++ m ∷ [])) ms l)
  where
    with : (c : Bool) → Memᴰ n (cond c ns (ns ++ m ∷ [])) → Memᴰ n ns ⊎ Memᴰ n (m ∷ ms)
    with true h = inl h
    with false h = ⊎_elim inl (λ g. inr (Memᴰ.head (Memᴰ.eq_of_singleton g))) (Memᴰ.append_cases ns h)

of_taxa : {n : Bytes} (ts : Trees) → Memᴰ n (taxa ts) → Memᴰ n (all_names ts)
of_taxa ts l = ⊎_elim (λ h. absurd (Memᴰ.not-nil h)) (λ h. h) (of_seen [] (all_names ts) l)

-- ---- columns

legal_sets : {taxa : List Bytes} (c : Column) → Among taxa c.tree → Among c.tree c.ones → LegalSets taxa c
legal_sets {taxa} c t o = record {
  ones_known = set_known (λ n m. t n (o n m));
  zeros_known = ⊆-trans (∖-⊆ (set_of taxa c.tree) (ones_of taxa c)) (set_known t);
  apart = disjoint_∩ (record { off = λ h g. ((in∖ (set_of taxa c.tree) (ones_of taxa c)).0 g).1 h });
}

pub accepted_legal : (s : List ℕ) {ts : Trees} {x : Tally} → outcome s ≡ accepted ts x → LegalTally x
accepted_legal s {ts} {x} e =
    let (spelt, within, t, c) = reads_only s ts e in
    let h = accepted_orderly s e in
    record {
      some_taxa = rw t (let (n, m) = some_name ts in omega (arith, (number_at (seen_has [] m)).0));
      taxa_fit = h.few;
      differ = rw t (seen_distinct [] (all_names ts) end);
      named = λ n m. spelt_names ts spelt n (of_taxa ts (rw t at m));
      short = λ n m. within.short n (of_taxa ts (rw t at m));
      columns_fit = rw c within.columns;
      trees = h.columns;
      columns = λ c m. let (t, o) = h.columns c m in legal_sets c t o;
    }
