-- The clades of a tree that shows S are exactly the groups, where they all are inside S (`clades_exactly`).
use mathlib.Core.Path.{sym, subst}
use mathlib.Core.Logic.{◌↔◌}
use mathlib.Core.List.{List, Memᴰ}
use Prim.Native.Nat.{ℕ, ◌^◌}
use native.Mathlib.Omega.{arith}
use Rattle.taxa.specs.Sets.{◌⊆◌}
use Rattle.taxa.proofs.Members.{pow_in}
use Rattle.taxa.proofs.Counts.{count_⊆, count_pow, count_some}
use Rattle.grammar.specs.Trees.{Tree}
use Rattle.grammar.specs.Columns.{Bytes}
use Rattle.clades.specs.Shows.{Groups, Shows}
use Rattle.clades.specs.Clades.{Names, SameNames, IsClade, IsGroup}
use Rattle.clades.proofs.Clades.{clade_group, group_clade}

module _ {name : ℕ → Bytes} where
  -- Names of one set.
  same_names : {G : ℕ} {c d : List Bytes} → Names name G c → Names name G d → SameNames c d
  same_names {c = c} {d} x y = record {
    there = λ l. let (i, m, e) = x.only l in subst (λ (n : Bytes). Memᴰ n d) (sym e) (y.has m);
    back = λ l. let (i, m, e) = y.only l in subst (λ (n : Bytes). Memᴰ n c) (sym e) (x.has m);
  }

  names_same : {G : ℕ} {c d : List Bytes} → Names name G d → SameNames c d → Names name G c
  names_same x s = record { has = λ m. s.back (x.has m); only = λ l. x.only (s.there l) }

  module _ {gs : List ℕ} (gr : Groups gs) {S : ℕ} (inside : (G : ℕ) → Memᴰ G gs → G ⊆ S) {t : Tree} (shows : Shows name gs S t) where
    several : {G : ℕ} → Memᴰ G gs → (i : ℕ) → G ⊆ 2 ^ i → ⊥
    several {G} g i s =
        let (j, b, x) = count_some 64 G (omega (arith, gr.two g)) in
        let e = pow_in i (s.sub x) in omega (arith, gr.two g, count_⊆ 64 s, count_pow 64 {j = i} (omega arith))

    pub clades_exactly : (c : List Bytes) → IsClade t c ↔ IsGroup name gs c
    clades_exactly c = (
      λ (d, m, s). let (G, g, i, n) = clade_group shows m in (G, g, names_same n s),
      λ (G, g, n).
          let (i, b, x) = count_some 64 G (omega (arith, gr.two g)) in
          let (d, m, k) = group_clade gr.laminar g x (several g) shows (inside G g) in (d, m, same_names n k),
    )
