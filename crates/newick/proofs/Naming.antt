-- A name, as the lists hold what is kept of it: one that the file has (`name_known`), a new one (`name_new`), or a refusal.
use mathlib.Core.Path.{◌≡◌, ◌∙◌}
use mathlib.Core.Bool.{Bool, true, false}
use mathlib.Core.List.{List}
use Prim.Native.Nat.{ℕ, ◌+◌, ◌-◌, ◌^◌, ◌≤◌, ◌<◌}
use native.Mathlib.Omega.{arith}
use lib.Dec.{ltb}
use lib.ListN.{length, get_or, set, length-set}
use lib.Seq.{get_or-set_same, get_or-set_other}
use borrow.Author.Tests.{lt-ltb, le-ltb}
use Rattle.taxa.specs.Sets.{◌∪◌, within}
use Rattle.grammar.specs.Bytes.{is_letter}
use Rattle.grammar.specs.Trees.{word}
use Rattle.grammar.specs.Verdict.{goes, refused}
use Rattle.grammar.specs.Columns.{Bytes}
use Rattle.record.specs.Bytes.{equal}
use Rattle.grammar.specs.Limits.{number}
use Rattle.grammar.specs.inner.Standing.{Run, piece}
use Rattle.grammar.proofs.Standing.{piece_length}
use Rattle.grammar.proofs.Standing.{names, name_refused, too_long}
use Rattle.ledger.specs.inner.Ledger.{Ledger, note, outcome, wrongs, keep, entering, known}
use Rattle.newick.specs.declared.Reading.{Reading}
use Rattle.newick.specs.inner.Names.{names_in}
use Rattle.newick.specs.declared.Book.{Book}
use Rattle.newick.specs.inner.Book.{ledger_in, Holds}
use Rattle.newick.specs.inner.Book.{with_name}
use Rattle.newick.proofs.Names.{one_further, number_most, length_names, names_more, new_one}
use Rattle.newick.proofs.Places.{still_bracketed, at_subtree}

module _ {text : List ℕ} {k : Book} {r : Reading} (h : Holds text k r) where
  -- A name.
  module _ (subtree : r.ended ≡ false) (end : ℕ) (run : Run is_letter text r.at end) where
    pub name_17 : 32 < end - r.at → outcome text ≡ refused 17 (r.at + 32)
    name_17 l = too_long (at_subtree h subtree) run l

    abbrev read : Bytes
    read = piece text r.at (end - r.at)

    abbrev taxa : List Bytes
    taxa = names_in text k.starts k.sizes r.taxa

    module _ (some : r.at < end) (short : end - r.at ≤ 32) (i : ℕ) (e : i ≡ number taxa read) where
      size : length read ≡ end - r.at
      size = piece_length text r.at (end - r.at) (omega (arith, run.within))

      abbrev before_it : Ledger
      before_it = ledger_in text k r

      fits : ltb 32 (length read) ≡ false
      fits = le-ltb 32 (length read) (omega (arith, size))

      number_of : (c : Bool) → ltb i r.taxa ≡ c → known before_it read ≡ c
      number_of c f = rw (← e, length_names text k.starts k.sizes r.taxa) f

      -- A name that the file has.
      module _ (l : i < r.taxa) where
        pub name_18 : within (2 ^ i) r.here ≡ true → outcome text ≡ refused 18 r.at
        unfolding wrongs
        name_18 w = name_refused (at_subtree h subtree) run some short (rw (fits, number_of true (lt-ltb i r.taxa l), ← e, w))

        pub name_known : within (2 ^ i) r.here ≡ false → Holds text k (with_name r end r.taxa i)
        unfolding wrongs keep
        name_known w =
            let old = number_of true (lt-ltb i r.taxa l) in
            let goes_on : note before_it (word read) ≡ goes (entering before_it read) = rw (fits, old, ← e, w) in
            let stands = rw (old, ← e) at (names (at_subtree h subtree) run some short goes_on) in
            record { placed = h.placed; bracketed = still_bracketed h.bracketed k.hints k.starts k.sizes end true r.taxa (r.here ∪ 2 ^ i); zeros_room = h.zeros_room; stands = stands }

      -- A new name.
      module _ (l : r.taxa ≤ i) where
        new : i ≡ r.taxa
        new = omega (arith, e, number_most taxa read, length_names text k.starts k.sizes r.taxa)

        unknown : known before_it read ≡ false
        unknown = number_of false (le-ltb i r.taxa l)

        pub name_19 : 64 ≤ i → outcome text ≡ refused 19 r.at
        unfolding wrongs
        name_19 f =
            let all : r.taxa ≡ 64 = omega (arith, new, h.placed.few) in
            name_refused (at_subtree h subtree) run some short (rw (fits, unknown, length_names text k.starts k.sizes r.taxa, all))

        abbrev starts_now : List ℕ
        starts_now = set k.starts i r.at

        abbrev sizes_now : List ℕ
        sizes_now = set k.sizes i (end - r.at)

        abbrev name_now : ℕ → Bytes
        name_now j = piece text (get_or starts_now j 0) (get_or sizes_now j 0)

        start_kept : (j : ℕ) → j < i → get_or starts_now j 0 ≡ get_or k.starts j 0
        start_kept j b = get_or-set_other k.starts i j r.at 0 (λ q. absurd (omega arith))

        size_kept : (j : ℕ) → j < i → get_or sizes_now j 0 ≡ get_or k.sizes j 0
        size_kept j b = get_or-set_other k.sizes i j (end - r.at) 0 (λ q. absurd (omega arith))

        start_new : i < 64 → get_or starts_now i 0 ≡ r.at
        start_new f = get_or-set_same k.starts i r.at 0 (omega (arith, h.placed.starts_room))

        size_new : i < 64 → get_or sizes_now i 0 ≡ end - r.at
        size_new f = get_or-set_same k.sizes i (end - r.at) 0 (omega (arith, h.placed.sizes_room))

        pub name_new : i < 64 → Holds text (record k { starts = starts_now; sizes = sizes_now }) (with_name r end (i + 1) i)
        unfolding wrongs keep
        name_new f =
            let p = h.placed in
            let room : r.taxa ≤ 63 = omega (arith, new) in
            let goes_on : note before_it (word read) ≡ goes (entering before_it read) =
            rw (fits, unknown, length_names text k.starts k.sizes r.taxa, le-ltb 63 r.taxa room)
            in
            let starts_fit : r.taxa < length k.starts = omega (arith, p.starts_room) in
            let sizes-fit : r.taxa < length k.sizes = omega (arith, p.sizes_room) in
            let taxa-now = names_more text k.starts k.sizes r.at (end - r.at) r.taxa starts_fit sizes-fit in
            let stands = rw (unknown, ← e) at (names (at_subtree h subtree) run some short goes_on) in
            record {
              placed = record {
                starts_room = length-set k.starts i r.at ∙ p.starts_room;
                sizes_room = length-set k.sizes i (end - r.at) ∙ p.sizes_room;
                few = omega arith;
                inside = one_further (λ j. get_or starts_now j 0 + get_or sizes_now j 0 ≤ length text)
                    (λ j b. rw (start_kept j b, size_kept j b) (p.inside j (omega (arith, new))))
                    (rw (start_new f, size_new f) (omega (arith, run.within)));
                short = one_further (λ j. get_or sizes_now j 0 ≤ 32) (λ j b. rw (size_kept j b) (p.short j (omega (arith, new)))) (rw (size_new f) short);
                apart = one_further
                    (λ a. (j : ℕ) → j < a → equal (name_now a) (name_now j) ≡ false)
                    (λ a b j q. rw (start_kept a b, size_kept a b, start_kept j (omega arith), size_kept j (omega arith)) (p.apart a (omega (arith, new)) j q))
                    (λ j q. rw (start_new f, size_new f, start_kept j q, size_kept j q)
                    (new_one text k.starts k.sizes r.taxa read (omega (arith, e)) j (omega (arith, new))));
              };
              bracketed = still_bracketed h.bracketed k.hints starts_now sizes_now end true (i + 1) (r.here ∪ 2 ^ i);
              zeros_room = h.zeros_room;
              stands = rw (new, taxa-now) (rw new at stands);
            }
