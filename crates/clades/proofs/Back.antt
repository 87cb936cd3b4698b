-- The text of a tree that shows an answer's groups reads back to that tree (`reads_back`), whose clades of names are the groups (Exactly.antt).
use mathlib.Core.Path.{◌≡◌, sym, subst}
use mathlib.Core.List.Memᴰ
use mathlib.Core.List.{List, []}
use Prim.Native.Nat.{ℕ, ◌≤◌}
use native.Mathlib.Omega.{arith}
use lib.ListN.{length}
use Rattle.taxa.specs.Sets.{all}
use Rattle.taxa.proofs.Members.{none, ⊆-refl, all_fits}
use Rattle.taxa.proofs.Counts.{count_le}
use Rattle.grammar.specs.Trees.{Tree, one}
use Rattle.grammar.specs.Text.{Name}
use Rattle.grammar.specs.Columns.{Bytes, names, all_names, all_columns}
use Rattle.grammar.specs.Limits.{taxa, depth, Within}
use Rattle.grammar.specs.Limits as limits
use Rattle.grammar.specs.Verdict.{accepted}
use Rattle.grammar.specs.Clerk.{outcome}
use Rattle.grammar.specs.Writer.{written}
use Rattle.grammar.proofs.Lists.{seen_most}
use Rattle.grammar.proofs.Tallies.{between, columns_few}
use Rattle.grammar.proofs.Writing.{Named}
use Rattle.grammar.proofs.Reading.{written_reads}
use Rattle.clades.specs.Shows.{Laminar, Shows}
use Rattle.clades.specs.Clades.{NamesFor, Names}
use Rattle.clades.proofs.Clades.{shown_names}
use Rattle.clades.proofs.Sizes.{sizes, distinct}

module _ {name : ℕ → Bytes} {gs : List ℕ} {n : ℕ} {t : Tree}
    (few : n ≤ 64) (lam : Laminar gs) (list : NamesFor name (all n)) (shows : Shows name gs (all n) t) where
  nothing : Names name 0 []
  nothing = record { has = λ x. absurd (none x); only = λ l. absurd (Memᴰ.not-nil l) }

  within : Within (one t)
  unfolding names all_columns depth
  within =
      let z = sizes lam shows (all_fits 64 few) in record {
        short = λ m l. let (i, x, e) = (shown_names shows).only l in subst (λ (w : Bytes). length w ≤ 32) (sym e) (list.short x);
        once = limits.first
            (distinct lam list.differ shows (⊆-refl (all n)) nothing (record { sub = λ x. absurd (none x) }) (record { off = λ x. absurd (none x) }));
        few = omega (arith, seen_most [] (names t), z.all_names_lem, count_le 64 (all n));
        columns = omega (arith, columns_few t, z.brackets, count_le 64 (all n));
        nested = omega (arith, z.deep, count_le 64 (all n));
      }

  pub named : Named (all_names (one t))
  unfolding names
  named m l = let (i, x, e) = (shown_names shows).only l in subst Name (sym e) (list.is_name x)

  pub reads_back : outcome (written (one t)) ≡ accepted (one t) (between (taxa (one t)) (all_columns (one t)))
  reads_back = written_reads (one t) named within
