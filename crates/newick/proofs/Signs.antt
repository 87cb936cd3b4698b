-- The signs, as the lists hold what is kept of them: from a place between tokens to the next, or to a refusal.
use mathlib.Core.Path.{◌≡◌, refl, ◌∙◌}
use mathlib.Core.Bool.{true, false, true≢false}
use mathlib.Core.List.{List, ◌++◌, map}
use Prim.Native.Nat.{ℕ, ◌+◌, ◌-◌, ◌≤◌, ◌<◌}
use native.Mathlib.Numerals.{add-one}
use native.Mathlib.Omega.{arith}
use lib.ListN.{length, get_or, set, take, drop, length-set}
use lib.Seq.{get_or-set_same, get_or-set_other, take-add, length-take-le}
use borrow.Author.Tests.{eqb-true, ne_eqb, lt-ltb, le-ltb}
use Rattle.taxa.specs.Sets.{◌∖◌}
use Rattle.grammar.specs.Bytes.{byte, left, right, comma, semicolon}
use Rattle.grammar.specs.Trees.{sign}
use Rattle.grammar.specs.Verdict.{goes, refused}
use Rattle.grammar.proofs.Standing.{opens, open_refused, closes, closes_one, closes_none}
use Rattle.grammar.proofs.Standing.{goes_to_next, next_outside, finishes, finishes_inside}
use Rattle.ledger.specs.inner.Ledger.{note, outcome, wrongs, keep, opening}
use Rattle.newick.specs.declared.Reading.{Reading}
use Rattle.newick.specs.declared.Book.{Book}
use Rattle.newick.specs.inner.Book.{brackets_in, filled_in, ledger_in, Holds, SignAt}
use Rattle.newick.specs.inner.Book.{may_follow, clade_put}
use Rattle.newick.proofs.Names.{one_further}
use Rattle.newick.proofs.OpenBrackets.{brackets_more, filled_more, brackets_last, filled_last, length_brackets}
use Rattle.newick.proofs.Columns.{columns_kept, length_put, clades_more, clade_set, more_less}
use Rattle.newick.proofs.Places.{after_subtree_lem, at_subtree}

module _ {text : List ℕ} {k : Book} {r : Reading} (h : Holds text k r) where
  -- A comma.
  module _ {next : ℕ} (subtree : r.ended ≡ true) (s : SignAt text r.at (byte comma) next) where
    pub comma_outside : r.depth ≡ 0 → outcome text ≡ refused 16 r.at
    unfolding filled_in
    comma_outside e = next_outside (rw e at (after_subtree_lem h subtree)) s.inside s.is

    pub comma_taken : (last : ℕ) → r.depth ≡ last + 1 → Holds text (record k { filled = set k.filled last true }) (record r { at = next; ended = false })
    unfolding wrongs keep
    comma_taken last e =
        let b = h.bracketed in
        let stands = rw (filled_last k.filled r.depth last e) at (after_subtree_lem h subtree) in
        let filled-now = filled_more k.filled true last r.depth e (omega (arith, b.filled_room, b.nested)) in
        record {
          placed = h.placed;
          bracketed = record {
            ones_room = b.ones_room;
            index_room = b.index_room;
            before_room = b.before_room;
            filled_room = length-set k.filled last true ∙ b.filled_room;
            nested = b.nested;
            columns_fit = b.columns_fit;
            clades_fit = b.clades_fit;
            has_opened = b.has_opened;
          };
          zeros_room = h.zeros_room;
          stands = rw (← s.after, filled-now) (goes_to_next stands s.inside s.is refl);
        }

  -- An opening bracket.
  module _ {next : ℕ} (subtree : r.ended ≡ false) (s : SignAt text r.at (byte left) next) where
    columns_there : length (take r.columns k.ones) ≡ r.columns
    columns_there = length-take-le r.columns k.ones (omega (arith, h.bracketed.ones_room, h.bracketed.columns_fit))

    pub left_19 : 256 < r.columns + r.opened → outcome text ≡ refused 19 r.at
    unfolding wrongs
    left_19 l = open_refused (at_subtree h subtree) s.inside s.is (rw (columns_there, lt-ltb 256 (r.columns + r.opened) l))

    module _ (fit : r.columns + r.opened ≤ 256) where
      pub left_20 : r.depth ≡ 64 → outcome text ≡ refused 20 r.at
      unfolding wrongs
      left_20 e =
          open_refused (at_subtree h subtree) s.inside s.is
          (rw (columns_there, le-ltb 256 (r.columns + r.opened) fit, length_brackets k.index k.before r.depth, e))

      pub left_taken : r.depth < 64
          → Holds text
          (record k {
            ones = clade_put k.ones r.columns r.opened 0;
            index = set k.index r.depth r.opened;
            before = set k.before r.depth r.here;
            filled = set k.filled r.depth false;
          })
          (record r { at = next; ended = false; opened = r.opened + 1; depth = r.depth + 1 })
      unfolding wrongs keep
      left_taken l =
          let b = h.bracketed in
          let goes_on : note (ledger_in text k r) (sign left) ≡ goes (opening (ledger_in text k r)) =
          rw (columns_there, le-ltb 256 (r.columns + r.opened) fit, length_brackets k.index k.before r.depth, le-ltb 63 r.depth (omega arith))
          in
          let stands = opens (at_subtree h subtree) s.inside s.is goes_on in
          let filled-now = filled_more k.filled false r.depth (r.depth + 1) refl (omega (arith, b.filled_room)) in
          let index-fits : r.depth < length k.index = omega (arith, b.index_room) in
          let before-fits : r.depth < length k.before = omega (arith, b.before_room) in
          let brackets-now = brackets_more k.index k.before r.opened r.here r.depth (r.depth + 1) refl index-fits before-fits in
          let columns-now = columns_kept k.ones r.columns r.opened 0 in
          let clades-now = clades_more k.ones r.columns r.opened (omega (arith, b.ones_room)) in
          record {
            placed = h.placed;
            bracketed = record {
              ones_room = length_put k.ones r.columns r.opened 0 ∙ b.ones_room;
              index_room = length-set k.index r.depth r.opened ∙ b.index_room;
              before_room = length-set k.before r.depth r.here ∙ b.before_room;
              filled_room = length-set k.filled r.depth false ∙ b.filled_room;
              nested = omega arith;
              columns_fit = b.columns_fit;
              clades_fit = omega arith;
              has_opened = one_further (λ j. get_or (set k.index r.depth r.opened) j 0 < r.opened + 1)
                  (λ j i. rw (get_or-set_other k.index r.depth j r.opened 0 (λ e. absurd (omega arith))) (omega (arith, b.has_opened j i)))
                  (rw (get_or-set_same k.index r.depth r.opened 0 (omega (arith, b.index_room))) (omega arith));
            };
            zeros_room = h.zeros_room;
            stands = rw (← s.after, filled-now, columns-now, brackets-now, more_less r.opened, clades-now, add-one r.opened) stands;
          }

  -- A closing bracket.
  module _ {next : ℕ} (subtree : r.ended ≡ true) (s : SignAt text r.at (byte right) next) where
    pub right_outside : r.depth ≡ 0 → outcome text ≡ refused 16 r.at
    unfolding filled_in
    right_outside e = closes_none (rw e at (after_subtree_lem h subtree)) s.inside s.is

    module _ (last : ℕ) (e : r.depth ≡ last + 1) where
      pub right_too_soon : get_or k.filled last false ≡ false → outcome text ≡ refused 16 r.at
      right_too_soon f = closes_one (rw (filled_last k.filled r.depth last e, f) at (after_subtree_lem h subtree)) s.inside s.is

      pub right_taken : get_or k.filled last false ≡ true
          → Holds text
          (record k { ones = clade_put k.ones r.columns (get_or k.index last 0) (r.here ∖ get_or k.before last 0) })
          (record r { at = next; ended = true; depth = last })
      unfolding wrongs keep
      right_taken f =
          let b = h.bracketed in
          let i = get_or k.index last 0 in
          let clade = r.here ∖ get_or k.before last 0 in
          let columns-now = columns_kept k.ones r.columns i clade in
          let clades-now = clade_set k.ones r.columns r.opened i clade (b.has_opened last (omega arith)) in
          let at_last = rw (filled_last k.filled r.depth last e, f, brackets_last k.index k.before r.depth last e) at (after_subtree_lem h subtree) in
          record {
            placed = h.placed;
            bracketed = record {
              ones_room = length_put k.ones r.columns i clade ∙ b.ones_room;
              index_room = b.index_room;
              before_room = b.before_room;
              filled_room = b.filled_room;
              nested = omega (arith, b.nested);
              columns_fit = b.columns_fit;
              clades_fit = b.clades_fit;
              has_opened = λ j l. b.has_opened j (omega arith);
            };
            zeros_room = h.zeros_room;
            stands = rw (← s.after, columns-now, clades-now) (closes at_last s.inside s.is refl);
          }

  -- A semicolon.
  module _ {next : ℕ} (subtree : r.ended ≡ true) (s : SignAt text r.at (byte semicolon) next) where
    pub semicolon_inside : 0 < r.depth → outcome text ≡ refused 16 r.at
    semicolon_inside l =
        finishes_inside (rw (filled_last k.filled r.depth (r.depth - 1) (omega arith)) at (after_subtree_lem h subtree)) s.inside s.is

    pub semicolon_taken : (zeros : List ℕ) (end : ℕ) → r.depth ≡ 0 → end ≡ r.columns + (r.opened - 1) → length zeros ≡ 256
        → take end zeros ≡ take r.columns k.zeros ++ map (λ c. r.here ∖ c) (take (end - r.columns) (drop r.columns k.ones))
        → Holds text (record k { zeros = zeros })
        (record r { at = next; ended = false; finished = true; columns = end; here = 0; opened = 0; depth = 0 })
    unfolding wrongs keep filled_in brackets_in
    semicolon_taken zeros end e f room new =
        let b = h.bracketed in
        let size : end - r.columns ≡ r.opened - 1 = omega arith in
        record {
          placed = h.placed;
          bracketed = record {
            ones_room = b.ones_room;
            index_room = b.index_room;
            before_room = b.before_room;
            filled_room = b.filled_room;
            nested = omega arith;
            columns_fit = omega (arith, b.columns_fit, b.clades_fit);
            clades_fit = omega (arith, b.columns_fit, b.clades_fit);
            has_opened = λ j l. absurd (omega arith);
          };
          zeros_room = room;
          stands = rw (← s.after, new, size, f, take-add r.columns (r.opened - 1) k.ones)
              (finishes (rw e at (after_subtree_lem h subtree)) s.inside s.is refl);
        }

-- A token of one byte, a sign.
pub sign_here : {text : List ℕ} {at sign : ℕ} → at < length text → get_or text at 0 ≡ sign → SignAt text at sign (at + 1)
sign_here inside e = record { inside = inside; is = e; after = refl }

-- One that is no bracket and no comma,
pub last_sign : (b : ℕ) → may_follow b ≡ true → (b ≡ byte right → ⊥) → (b ≡ byte comma → ⊥) → b ≡ byte semicolon
last_sign b e n m = eqb-true b (byte semicolon) (rw (ne_eqb b (byte right) n, ne_eqb b (byte comma) m) at e)

-- .. and a byte that is none of them.
pub no_sign : (b : ℕ) → may_follow b ≡ false → (b ≡ byte right → ⊥) × (b ≡ byte comma → ⊥) × (b ≡ byte semicolon → ⊥)
no_sign b e = (
  λ q. absurd (true≢false (rw q at e)),
  λ q. absurd (true≢false (rw q at e)),
  λ q. absurd (true≢false (rw q at e)),
)
