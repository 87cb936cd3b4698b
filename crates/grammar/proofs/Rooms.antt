-- What the clerk keeps after names and clades (`plus`), and that the limits leave room for them (`Room`).
use mathlib.Core.Path.{◌≡◌, refl, ap}
use mathlib.Core.Logic.{⊎_elim}
use mathlib.Core.List.Memᴰ
use mathlib.Core.List.{List, [], ◌∷◌, ◌++◌, append_assoc, Memᴰ}
use Prim.Native.Nat.{ℕ, suc, pred, max, ◌+◌, ◌≤◌}
use native.Mathlib.Omega.{arith}
use lib.ListN.{length, length-append, drop}
use lib.Seq.{drop_at}
use Rattle.grammar.specs.Columns.{Bytes}
use Rattle.grammar.specs.Limits.{seen, Distinct, end}
use Rattle.grammar.specs.Clerk.{Tally, opened, closed}
use Rattle.grammar.proofs.Lists.{seen_append, seen_grows, distinct_former, distinct_latter, distinct_both, set_at}

abbrev pub plus : Tally → List Bytes → List (List Bytes) → Tally
plus x ns cs = record { taxa = seen x.taxa ns; columns = x.columns; here = x.here ++ ns; brackets = x.brackets; clades = x.clades ++ cs }

pub plus_plus : (x : Tally) (ns ms : List Bytes) (cs es : List (List Bytes)) → plus (plus x ns cs) ms es ≡ plus x (ns ++ ms) (cs ++ es)
plus_plus x ns ms cs es = rw (seen_append x.taxa ns ms, append_assoc x.here ns ms, append_assoc x.clades cs es)

-- A bracket has its clade in its place.
pub closed_plus : (x : Tally) (ns : List Bytes) (cs : List (List Bytes)) → closed (plus (opened x) ns cs) (opened x).brackets ≡ plus x ns (ns ∷ cs)
closed_plus x ns cs = rw (append_assoc x.clades ([] ∷ []) cs, set_at x.clades [] (drop (length x.here) (x.here ++ ns)) cs, drop_at x.here ns (length x.here) refl)

-- The limits have room for the names ns, the brackets of cs, and d more in depth.
pub record Room (x : Tally) (ns : List Bytes) (cs : List (List Bytes)) (d : ℕ) : Type 0 where
  pub short : (n : Bytes) → Memᴰ n ns → length n ≤ 32
  pub apart : Distinct x.here ns
  pub few : length (seen x.taxa ns) ≤ 64
  pub columns : length x.columns + pred (length x.clades + length cs) ≤ 256
  pub nested : length x.brackets + d ≤ 64

module _ {x : Tally} (ns ms : List Bytes) (cs es : List (List Bytes)) (d e : ℕ) where
  pub room_former : Room x (ns ++ ms) (cs ++ es) (max d e) → Room x ns cs d
  room_former r = record {
    short = λ n l. r.short n (Memᴰ.append_left ms l);
    apart = distinct_former ns ms r.apart;
    few = omega (arith, r.few, ap length (seen_append x.taxa ns ms), seen_grows (seen x.taxa ns) ms);
    columns = omega (arith, r.columns, length-append cs es);
    nested = omega (arith, r.nested);
  }

  pub room_latter : Room x (ns ++ ms) (cs ++ es) (max d e) → Room (plus x ns cs) ms es e
  room_latter r = record {
    short = λ n l. r.short n (Memᴰ.append_right ns l);
    apart = distinct_latter x.here ns ms r.apart;
    few = omega (arith, r.few, ap length (seen_append x.taxa ns ms));
    columns = omega (arith, r.columns, length-append x.clades cs, length-append cs es);
    nested = omega (arith, r.nested);
  }

  pub room_both : Room x ns cs d → Room (plus x ns cs) ms es e → Room x (ns ++ ms) (cs ++ es) (max d e)
  room_both r s = record {
    short = λ n l. ⊎_elim (r.short n) (s.short n) (Memᴰ.append_cases ns l);
    apart = distinct_both x.here ns ms r.apart s.apart;
    few = omega (arith, s.few, ap length (seen_append x.taxa ns ms));
    columns = omega (arith, s.columns, length-append x.clades cs, length-append cs es);
    nested = omega (arith, r.nested, s.nested);
  }

-- A bracket more, or one less.
module _ {x : Tally} {ns : List Bytes} {cs : List (List Bytes)} {d : ℕ} where
  pub room_in : {c : List Bytes} → Room x ns (c ∷ cs) (suc d) → Room (opened x) ns cs d
  room_in r = record { short = r.short; apart = r.apart; few = r.few; columns = omega (arith, r.columns, length-append x.clades ([] ∷ [])); nested = omega (arith, r.nested) }

  pub room_out : (c : List Bytes) → Room (opened x) ns cs d → Room x ns (c ∷ cs) (suc d)
  room_out c r = record { short = r.short; apart = r.apart; few = r.few; columns = omega (arith, r.columns, length-append x.clades ([] ∷ [])); nested = omega (arith, r.nested) }

-- What is kept is within the limits.
abbrev pub Sane : Tally → Type 0
Sane x = Room x [] [] 0

pub room_sane : {x : Tally} {ns : List Bytes} {cs : List (List Bytes)} {d : ℕ} → Room x ns cs d → Sane (plus x ns cs)
unfolding seen
room_sane {x} {cs = cs} r = record {
  short = λ n l. absurd (Memᴰ.not-nil l);
  apart = end;
  few = r.few;
  columns = omega (arith, r.columns, length-append x.clades cs);
  nested = omega (arith, r.nested);
}
