-- The steps of the functions that spell a set S: a taxon alone, the bracket, and its parts one after the other.
use mathlib.Core.Path.{◌≡◌, ap}
use mathlib.Core.List.{List, ◌∷◌, ◌++◌}
use Prim.Native.Nat.{ℕ, ◌+◌, ◌^◌, ◌≤◌, ◌<◌}
use native.Mathlib.Omega.{arith}
use lib.ListN.{length, set, length-set}
use Rattle.taxa.specs.Sets.{◌⊆◌, ◌∖◌, count, low}
use Rattle.taxa.proofs.Members.{⊆-trans, ∖-⊆, ⊆-≤, in_pos, low_in, below}
use Rattle.grammar.specs.Bytes.{byte, left}
use Rattle.clades.specs.Draw.{part}
use Rattle.clades.proofs.Drawing.{Piece, piece_in, left_<, proper_<}
use Rattle.spelling.specs.Write.{name_in}
use Rattle.spelling.specs.inner.Spell.{spelling, closing, parts_text, Nameable, Spellable, Put}
use Rattle.spelling.proofs.Texts.{taxon_text, group_text, parts_text_next}
use Rattle.spelling.proofs.Putting.{Left, left_room, left_next, after_byte}

module _ (gs list : List ℕ) {S : ℕ} (fits : S < 2 ^ 64) {at : ℕ} {old : List ℕ} where
  -- ---- a taxon alone

  pub name_able : count 64 S ≤ 1 → Spellable list S at (spelling gs list S) old → Nameable list (low 64 S) at old
  name_able l p = record { named = below _ p.named (low_in 64 p.some fits); room = omega (arith, p.room, ap length (taxon_text gs list S l)) }

  pub name_put : count 64 S ≤ 1 → {new : List ℕ} {end : ℕ} → Put (name_in list (low 64 S)) at old new end → Put (spelling gs list S) at old new end
  name_put l p = rw (taxon_text gs list S l) p

  -- ---- a bracket

  module _ (two : 1 < count 64 S) where
    pub parts_able : Spellable list S at (spelling gs list S) old → Spellable list S (at + 1) (parts_text gs list S S) (set old at (byte left))
    parts_able p = record {
      some = p.some;
      named = p.named;
      room = omega (arith, p.room, ap length (group_text gs list S fits two), length-set old at (byte left));
    }

    pub parts_put : at < length old → {new : List ℕ} {end : ℕ} → Put (parts_text gs list S S) (at + 1) (set old at (byte left)) new end
        → Put (spelling gs list S) at old new end
    parts_put l p = rw (group_text gs list S fits two) (after_byte (byte left) (parts_text gs list S S) at old p l)

    -- ---- its parts: R is left, and P is the next

    module _ (whole : Spellable list S at (parts_text gs list S S) old) {R : ℕ} (inside : R ⊆ S) (some : 0 < R) (P : ℕ) (is : P ≡ part gs S (low 64 R)) where
      it : Piece gs S (low 64 R) P
      it = rw is (piece_in gs fits two inside some)

      pub part_falls : count 64 P < count 64 S
      part_falls = proper_< fits it.inside it.proper

      pub left_falls : count 64 (R ∖ P) < count 64 R
      left_falls = rw is (left_< gs fits two inside some)

      text_is : parts_text gs list S R ≡ spelling gs list P ++ closing (R ∖ P) ∷ parts_text gs list S (R ∖ P)
      text_is = parts_text_next gs list fits two inside some P is

      module _ {end : ℕ} {new : List ℕ} (x : Left (parts_text gs list S S) at old (parts_text gs list S R) end new) where
        pub part_room : end + length (spelling gs list P) < length new
        part_room = left_room whole.room (spelling gs list P) (closing (R ∖ P)) (parts_text gs list S (R ∖ P)) x text_is

        pub part_able : Spellable list P end (spelling gs list P) new
        part_able = record { some = in_pos it.member; named = omega (arith, whole.named, ⊆-≤ it.inside); room = omega (arith, part_room) }

        pub part_put : {now : List ℕ} {last : ℕ} → Put (spelling gs list P) end new now last
            → (R ∖ P ⊆ S) × Left (parts_text gs list S S) at old (parts_text gs list S (R ∖ P)) (last + 1) (set now last (closing (R ∖ P)))
        part_put p = (
          ⊆-trans (∖-⊆ R P) inside,
          left_next whole.room (spelling gs list P) (closing (R ∖ P)) (parts_text gs list S (R ∖ P)) x text_is p,
        )
