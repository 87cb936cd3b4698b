-- Where the reader stands between two tokens: what may not stand there (`wrong_after`, `wrong_before`), and a token that leads further from sooner on (`led_from_sooner`).
use mathlib.Core.Path.{◌≡◌}
use mathlib.Core.Bool.{Bool, true, false}
use mathlib.Core.List.{List}
use Prim.Native.Nat.{ℕ, ◌<◌}
use native.Mathlib.Omega.{arith}
use lib.ListN.{length, get_or}
use Rattle.std.specs.Prelude.{Result, Ok, Err}
use Rattle.taxa.specs.Sets.{within}
use Rattle.record.specs.declared.refusal.Refusal.{Refusal}
use Rattle.grammar.specs.Bytes.{byte, is_blank, is_letter, left, right, comma, semicolon}
use Rattle.grammar.specs.Verdict.{refused}
use Rattle.grammar.specs.inner.Shape.{beginning, ended}
use Rattle.grammar.specs.inner.Standing.{Run, Standing}
use Rattle.grammar.proofs.Standing.{skips, cannot_begin, cannot_follow}
use Rattle.ledger.specs.inner.Ledger.{unwritten, note, outcome}
use Rattle.newick.specs.declared.Reading.{Reading}
use Rattle.newick.specs.declared.Book.{Book}
use Rattle.newick.specs.inner.Book.{Bracketed, filled_in, ledger_in, Holds}
use Rattle.newick.specs.inner.Book.{Leads, standing}

-- Neither hints nor names say anything of the brackets, nor do the place and the tree's names so far.
pub still_bracketed : {k : Book} {r : Reading} → Bracketed k r → (hints places sizes : List ℕ) (at : ℕ) (e : Bool) (taxa here : ℕ)
    → Bracketed (record k { hints = hints; starts = places; sizes = sizes }) (record r { at = at; ended = e; taxa = taxa; here = here })
still_bracketed b hints places sizes at e taxa here = record {
  ones_room = b.ones_room;
  index_room = b.index_room;
  before_room = b.before_room;
  filled_room = b.filled_room;
  nested = b.nested;
  columns_fit = b.columns_fit;
  clades_fit = b.clades_fit;
  has_opened = b.has_opened;
}

module _ {text : List ℕ} {k : Book} {r : Reading} (h : Holds text k r) where
  -- The reader stands after a subtree, or where one must begin.
  pub after_subtree_lem : r.ended ≡ true → Standing note unwritten text r.at ended r.finished (filled_in k.filled r.depth) (ledger_in text k r)
  after_subtree_lem e = rw e at h.stands

  pub at_subtree : r.ended ≡ false → Standing note unwritten text r.at beginning r.finished (filled_in k.filled r.depth) (ledger_in text k r)
  at_subtree e = rw e at h.stands

  -- A byte that cannot stand here.
  pub wrong_after : r.ended ≡ true → r.at < length text → is_blank (get_or text r.at 0) ≡ false → (get_or text r.at 0 ≡ byte right → ⊥)
      → (get_or text r.at 0 ≡ byte comma → ⊥) → (get_or text r.at 0 ≡ byte semicolon → ⊥) → outcome text ≡ refused 16 r.at
  wrong_after e = cannot_follow (after_subtree_lem e)

  pub wrong_before : r.ended ≡ false → r.at < length text → is_blank (get_or text r.at 0) ≡ false → is_letter (get_or text r.at 0) ≡ false
      → (get_or text r.at 0 ≡ byte left → ⊥) → outcome text ≡ refused 16 r.at
  wrong_before e = cannot_begin (at_subtree e)

  -- What hints stand there says nothing of what was read.
  pub hinted_anyhow : (hints : List ℕ) → Holds text (record k { hints = hints }) r
  hinted_anyhow hints = record {
    placed = h.placed;
    bracketed = still_bracketed h.bracketed hints k.starts k.sizes r.at r.ended r.taxa r.here;
    zeros_room = h.zeros_room;
    stands = h.stands;
  }

  -- The blanks between two tokens.
  pub blanks_passed : {end : ℕ} → Run is_blank text r.at end → Holds text k (standing r end)
  blanks_passed {end} run = record {
    placed = h.placed;
    bracketed = still_bracketed h.bracketed k.hints k.starts k.sizes end r.ended r.taxa r.here;
    zeros_room = h.zeros_room;
    stands = skips h.stands run;
  }

module _ (text : List ℕ) (k : Book) where
  pub led_from_sooner : (from later : ℕ) (r : Result Reading Refusal) → from < later → Leads text k later r → Leads text k from r
  led_from_sooner from later (Ok r) l (h, after, within) = (h, omega (arith, after), within)
  led_from_sooner from later (Err why) l s = s
