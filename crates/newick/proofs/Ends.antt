-- The text at its start (`begins`) and at its end (`end_taken`, or a refusal).
use mathlib.Core.Path.{◌≡◌}
use mathlib.Core.Bool.{true, false}
use mathlib.Core.List.{List}
use Prim.Native.Nat.{ℕ, ◌-◌}
use native.Mathlib.Omega.{arith}
use lib.ListN.{length}
use Rattle.grammar.specs.Trees.{Trees}
use Rattle.grammar.specs.Verdict.{accepted, refused}
use Rattle.grammar.proofs.Standing.{starts, ends, ends_unfinished, ends_treeless, ends_inside}
use Rattle.ledger.specs.inner.Ledger.{outcome}
use Rattle.newick.specs.declared.Reading.{Reading}
use Rattle.newick.specs.inner.Names.{names_in}
use Rattle.newick.specs.declared.Book.{Book}
use Rattle.newick.specs.inner.Book.{brackets_in, filled_in, ledger_in, Holds}
use Rattle.newick.specs.inner.Book.{Roomy}
use Rattle.newick.proofs.OpenBrackets.{filled_last, none_filled}
use Rattle.newick.proofs.Places.{after_subtree_lem, at_subtree}

-- No token yet.
pub begins : (text : List ℕ) (k : Book) → Roomy k
    → Holds text k (record { at = 0; ended = false; finished = false; taxa = 0; columns = 0; here = 0; opened = 0; depth = 0 })
unfolding names_in brackets_in filled_in
begins text k room = record {
  placed = record {
    starts_room = room.starts_room;
    sizes_room = room.sizes_room;
    few = omega arith;
    inside = λ j l. absurd (omega arith);
    short = λ j l. absurd (omega arith);
    apart = λ i l. absurd (omega arith);
  };
  bracketed = record {
    ones_room = room.ones_room;
    index_room = room.index_room;
    before_room = room.before_room;
    filled_room = room.filled_room;
    nested = omega arith;
    columns_fit = omega arith;
    clades_fit = omega arith;
    has_opened = λ j l. absurd (omega arith);
  };
  zeros_room = room.zeros_room;
  stands = starts;
}

module _ {text : List ℕ} {k : Book} {r : Reading} (h : Holds text k r) where
  -- The end of the text.
  module _ (end : r.at ≡ length text) where
    pub end_after_subtree : r.ended ≡ true → outcome text ≡ refused 16 r.at
    end_after_subtree e = ends_unfinished (after_subtree_lem h e) (omega arith)

    pub end_without_tree : r.finished ≡ false → outcome text ≡ refused 16 r.at
    end_without_tree f = ends_treeless (rw f at h.stands) (omega arith)

    pub end_inside : (r.depth ≡ 0 → ⊥) → outcome text ≡ refused 16 r.at
    end_inside n = ends_inside (rw (filled_last k.filled r.depth (r.depth - 1) (omega arith)) at h.stands) (omega arith)

    pub end_taken : r.ended ≡ false → r.finished ≡ true → r.depth ≡ 0 → (ts : Trees) × (outcome text ≡ accepted ts (ledger_in text k r))
    end_taken e f g = let s = rw (f, none_filled k.filled r.depth g) at (at_subtree h e) in ends s (omega arith)
