-- The tree of reached taxa grown to its end (`spanned`): each taxon of it is looked at once, and all that its hops lead to joins.
use Prim.Native.Nat.{ℕ, zero, suc, ◌≤◌, ◌<◌, min}
use mathlib.Core.Path.{◌≡◌, refl, sym, ap, ◌∙◌}
use mathlib.Core.Bool.{Bool, true, false, not, cond, true≢false}
use mathlib.Core.Logic.{◌⊎◌, inl, inr, ⊎_elim, by_cases}
use native.Mathlib.Decide.{dec_lt}
use native.Mathlib.Omega.{arith}
use Rattle.taxa.specs.Sum.{sum, inside, outside}
use Rattle.taxa.proofs.Sums.{sum_0, sum_some, sum_<, term_≤}
use Rattle.taxa.proofs.Insides.{inside_pos, inside_term}
use Rattle.method.proofs.Sources.{true?}
use Rattle.method.proofs.Carry.{same?, put, put_at, put_off}
use Rattle.method.proofs.HopTree.{carries, Tree, Shut, Growing, Joined, join}

-- ---- sets by their tests

-- A set with one taxon more holds it, what it held, and nothing else.
put_in : (D : ℕ → Bool) (i x : ℕ) → (x ≡ i) ⊎ (D x ≡ true) → put D i true x ≡ true
put_in D i x (inl e) = rw e (put_at D i true)
put_in D i x (inr d) = ⊎_elim (λ e. rw e (put_at D i true)) (λ ne. put_off D i true x ne ∙ d) (same? x i)

in_put : (D : ℕ → Bool) (i x : ℕ) → put D i true x ≡ true → (x ≡ i) ⊎ (D x ≡ true)
in_put D i x h = ⊎_elim inl (λ ne. inr (sym (put_off D i true x ne) ∙ h)) (same? x i)

-- 1 for what is not in a set.
abbrev unless : Bool → ℕ
unless b = cond (not b) 1 0

unless_≤ : (a b : Bool) → (b ≡ true → a ≡ true) → unless a ≤ unless b
unless_≤ true b h = omega arith
unless_≤ false true h = absurd (true≢false (sym (h refl)))
unless_≤ false false h = omega arith

unless_false : (b : Bool) → 0 < unless b → b ≡ false
unless_false true l = absurd (omega arith)
unless_false false l = refl

-- ---- the tree

-- What a tree notes of each taxon.
pub record Notes : Type 0 where
  pub set : ℕ → Bool
  pub from : ℕ → ℕ
  pub via : ℕ → ℕ
  pub turn : ℕ → ℕ
  pub width : ℕ → ℕ

module _ (n m : ℕ) (cap : ℕ → ℕ → ℕ) (thr : ℕ → ℕ) (out inn : ℕ → ℕ → ℕ) (X : ℕ → Bool) where
  abbrev carried : ℕ → ℕ → ℕ → ℕ
  carried = carries n m cap thr out inn

  abbrev pub TreeOf : Notes → Type 0
  TreeOf r = Tree n m cap thr out inn X r.set r.from r.via r.turn r.width

  abbrev pub ShutIn : Notes → (ℕ → Bool) → Type 0
  ShutIn r = Shut n m cap thr out inn X r.set r.from r.via r.turn r.width

  -- Taxon i is being looked at, and its hops to the taxa below b have been.
  record Looking (D : ℕ → Bool) (i T b : ℕ) : Type 0 where
    notes : Notes
    growing : Growing n m cap thr out inn X notes.set notes.from notes.via notes.turn notes.width D i T
    seen : (x : ℕ) → x < b → (c : ℕ) → c < m → 0 < carried c i x → notes.set x ≡ true

  -- The taxa of D have been looked at.
  record Spread (D : ℕ → Bool) : Type 0 where
    notes : Notes
    last : ℕ
    tree : TreeOf notes
    done : ShutIn notes D
    sources : (x : ℕ) → notes.set x ≡ true → X x ≡ false → D (notes.from x) ≡ true
    turns : (x : ℕ) → notes.set x ≡ true → notes.turn x ≤ last

  pub some_width : (r : Notes) → TreeOf r → (i : ℕ) → r.set i ≡ true → 0 < r.width i
  some_width r t i h = ⊎_elim (t.wide i) (λ ne. (t.link i h ne).some) (true? (X i))

  -- One taxon more: it joins if it is new and some hop from i leads to it.
  look_at : {D : ℕ → Bool} {i T : ℕ} (b : ℕ) → b < n → Looking D i T b → Looking D i T (suc b)
  look_at {D} {i} {T} b bn l = ⊎_elim (λ r. stay (λ c bc p. r)) new (true? (old.set b))
    where
      old : Notes
      old = l.notes

      hops : ℕ → ℕ
      hops c = carried c i b

      -- Nothing joins: b is there, or no hop leads to it.
      stay : ((c : ℕ) → c < m → 0 < hops c → old.set b ≡ true) → Looking D i T (suc b)
      stay h = record { notes = old; growing = l.growing; seen = λ x bx. ⊎_elim (λ e. rw e h) (λ ne. l.seen x (omega arith)) (same? x b) }

      joins : old.set b ≡ false → (c : ℕ) × (c < m) × (0 < hops c) → Looking D i T (suc b)
      joins r (c, bc, p) = record {
        notes = record { set = put old.set b true; from = put old.from b i; via = put old.via b c; turn = put old.turn b T; width = put old.width b w };
        growing = join g joined r bn bc (omega (arith, some_width old g.tree i g.held)) (omega arith) (omega arith);
        seen = λ x bx e be q. put_in old.set b x (⊎_elim inl (λ ne. inr (l.seen x (omega arith) e be q)) (same? x b));
      }
        where
          g : Growing n m cap thr out inn X old.set old.from old.via old.turn old.width D i T
          g = l.growing

          w : ℕ
          w = min (old.width i) (hops c)

          joined : Joined old.set (put old.set b true) old.from old.via old.turn old.width (put old.from b i) (put old.via b c) (put old.turn b T) (put old.width b w) b i c T w
          joined = record {
            set_at = put_at old.set b true;
            from_at = put_at old.from b i;
            via_at = put_at old.via b c;
            turn_at = put_at old.turn b T;
            width_at = put_at old.width b w;
            set_off = put_off old.set b true;
            from_off = put_off old.from b i;
            via_off = put_off old.via b c;
            turn_off = put_off old.turn b T;
            width_off = put_off old.width b w;
          }

      new : old.set b ≡ false → Looking D i T (suc b)
      new r =
          by_cases
          (dec_lt 0 (sum m hops))
          (λ p. joins r (sum_some m (λ c. 0) hops (omega (arith, sum_0 m))))
          (λ q. stay (λ c bc p. absurd (omega (arith, term_≤ m hops bc))))

  look : {D : ℕ → Bool} {i T : ℕ} (b : ℕ) → b ≤ n → Looking D i T 0 → Looking D i T b
  look zero le l = l
  look (suc b) le l = look_at b (omega arith) (look b (omega arith) l)

  -- One taxon of the tree looked at.
  spread_step : {D : ℕ → Bool} (i : ℕ) (p : Spread D) → p.notes.set i ≡ true → Spread (put D i true)
  spread_step {D} i p r = record {
    notes = l.notes;
    last = suc p.last;
    tree = l.growing.tree;
    done = λ y d c x bc bx h. ⊎_elim (λ e. l.seen x bx c bc (rw e at h)) (λ o. l.growing.done y o c x bc bx h) (in_put D i y d);
    sources = λ x h ne. put_in D i (l.notes.from x) (⊎_elim inr inl (l.growing.sources x h ne));
    turns = l.growing.turns;
  }
    where
      begin : Looking D i (suc p.last) 0
      begin = record {
        notes = p.notes;
        growing = record {
          tree = p.tree;
          held = r;
          done = p.done;
          sources = λ x h ne. inl (p.sources x h ne);
          turns = λ x h. omega (arith, p.turns x h);
          turn_i = omega (arith, p.turns i r);
        };
        seen = λ x bx. absurd (omega arith);
      }

      l : Looking D i (suc p.last) n
      l = look n (omega arith) begin

  -- How many have not been looked at, and one less of them.
  abbrev waiting : (ℕ → Bool) → ℕ
  waiting D = sum n (outside D (λ x. 1))

  fewer : (D : ℕ → Bool) {i : ℕ} → i < n → D i ≡ false → waiting (put D i true) < waiting D
  fewer D {i} b d = sum_< n (λ x bx. unless_≤ (put D i true x) (D x) (λ h. put_in D i x (inr h))) b (omega (arith, ap unless (put_at D i true), ap unless d))

  -- A tree of which each taxon has been looked at.
  pub record Spanned : Type 0 where
    pub notes : Notes
    pub tree : TreeOf notes
    pub shut : ShutIn notes notes.set

  spread : (f : ℕ) (D : ℕ → Bool) → waiting D < f → Spread D → Spanned
  spread zero D le p = absurd (omega arith)
  spread (suc f) D le p =
      by_cases
      (dec_lt 0 (sum n (inside p.notes.set (outside D (λ x. 1)))))
      (λ h.
      let (i, b, r, l) = inside_pos n p.notes.set (outside D (λ x. 1)) h in
      spread f (put D i true) (omega (arith, fewer D b (unless_false (D i) l))) (spread_step i p r))
      (λ h. record { notes = p.notes; tree = p.tree; shut = λ y r. p.done y (⊎_elim (λ d. d) (λ d. absurd (h (waits y r d))) (true? (D y))) })
    where
      waits : (y : ℕ) → p.notes.set y ≡ true → D y ≡ false → 0 < sum n (inside p.notes.set (outside D (λ x. 1)))
      waits y r d = omega (arith, inside_term n p.notes.set (outside D (λ x. 1)) (p.tree.low y r) r, ap unless d)

  pub spanned : ((x : ℕ) → X x ≡ true → x < n) → Spanned
  spanned low = spread (suc (waiting (λ x. false))) (λ x. false) (omega arith) (record {
    notes = record { set = X; from = λ x. 0; via = λ x. 0; turn = λ x. 0; width = λ x. 1 };
    last = 0;
    tree = record {
      root = λ x h. h;
      first = λ x h. refl;
      wide = λ x h. omega arith;
      low = low;
      link = λ j r ne. absurd (true≢false (sym r ∙ ne));
      shared = λ x y r q ne nf e p. absurd (true≢false (sym r ∙ ne));
    };
    done = λ y d. absurd (true≢false (sym d));
    sources = λ x r ne. absurd (true≢false (sym r ∙ ne));
    turns = λ x r. omega arith;
  })
