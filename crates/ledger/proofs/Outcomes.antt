-- With the ledger every text comes to what the grammar's clerk says of it (`same_outcome`).
use mathlib.Core.Path.{◌≡◌, refl, sym, ◌∙◌}
use mathlib.Core.List.{List, [], ◌∷◌}
use Prim.Native.Nat.{ℕ}
use native.Mathlib.Omega.{arith}
use Rattle.grammar.specs.Trees.{Trees, Token}
use Rattle.grammar.specs.Reader.{start}
use Rattle.grammar.specs.Verdict.{Verdict, accepted, refused, noted}
use Rattle.grammar.specs.Clerk as clerk
use Rattle.grammar.specs.Clerk.{Tally, nothing}
use Rattle.ledger.specs.Sets.{set_of}
use Rattle.ledger.specs.inner.Ledger.{Ledger, unwritten, note, outcome}
use Rattle.ledger.specs.inner.Copy.{ledger_of, copied}
use Rattle.ledger.proofs.Clerks.{SameCheck, SameVerdict, go, fail, same_verdict}
use Rattle.ledger.proofs.Orderly.{Orderly, orderly_start, orderly}
use Rattle.ledger.proofs.Steps.{kept, same_wrongs}

-- The ledger is that of the tally, which is orderly.
record Copies (x : Tally) (l : Ledger) : Type 0 where
  is_orderly : Orderly x
  same : l ≡ ledger_of x

same_note : (x : Tally) (l : Ledger) → Copies x l → (w : Token) → SameCheck Copies (clerk.note x w) (note l w)
same_note x l r w = rw (r.same, same_wrongs r.is_orderly w, kept r.is_orderly w) (checked (clerk.wrongs x w) refl)
  where
    checked : (ws : List ℕ) → clerk.wrongs x w ≡ ws → SameCheck Copies (noted ws (clerk.keep x w)) (noted ws (ledger_of (clerk.keep x w)))
    checked [] e = go (record { is_orderly = orderly r.is_orderly w e; same = refl })
    checked (n ∷ ws) e = fail

same : (s : List ℕ) → SameVerdict Copies (clerk.outcome s) (outcome s)
unfolding set_of
same s = same_verdict Copies clerk.note note same_note s 0 start nothing unwritten (record { is_orderly = orderly_start; same = refl })

pub same_outcome : (s : List ℕ) → outcome s ≡ copied (clerk.outcome s)
same_outcome s = copy (same s)
  where
    copy : {v : Verdict Tally} {u : Verdict Ledger} → SameVerdict Copies v u → u ≡ copied v
    copy (go r) = rw r.same
    copy fail = refl

-- So what the ledger's outcome is tells the clerk's.
pub ledger_accepted : (s : List ℕ) {ts : Trees} {l : Ledger} → outcome s ≡ accepted ts l → (x : Tally) × (clerk.outcome s ≡ accepted ts x) × (l ≡ ledger_of x)
ledger_accepted s {ts} {l} e = back (clerk.outcome s) (sym (same_outcome s) ∙ e)
  where
    back : (v : Verdict Tally) → copied v ≡ accepted ts l → (x : Tally) × (v ≡ accepted ts x) × (l ≡ ledger_of x)
    back (accepted us x) f = (x, cc, cc)
    back (refused r p) f = let z : ◌≡◌ {A = ℕ} 0 1 = cc in absurd (omega arith)

pub ledger_refused : (s : List ℕ) {r p : ℕ} → outcome s ≡ refused r p → clerk.outcome s ≡ refused r p
ledger_refused s {r} {p} e = back (clerk.outcome s) (sym (same_outcome s) ∙ e)
  where
    back : (v : Verdict Tally) → copied v ≡ refused r p → v ≡ refused r p
    back (accepted us x) f = let z : ◌≡◌ {A = ℕ} 0 1 = cc in absurd (omega arith)
    back (refused q o) f = cc

-- What is accepted is orderly.
pub accepted_orderly : (s : List ℕ) {ts : Trees} {x : Tally} → clerk.outcome s ≡ accepted ts x → Orderly x
accepted_orderly s {ts} {x} e = book (rw e at (same s))
  where
    book : {u : Verdict Ledger} → SameVerdict Copies (accepted ts x) u → Orderly x
    book (go r) = r.is_orderly
