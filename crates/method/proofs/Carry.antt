-- What a hop carries: d units more from one taxon to another through one column, which stays balanced by itself. It is open exactly where it carries
-- something (`open_carry`, `carry_open`), and the column after it is a column still (`moved`).
use Prim.Native.Nat.{ℕ, ◌+◌, ◌-◌, ◌≤◌, ◌<◌, min, max}
use mathlib.Core.Path.{◌≡◌, refl, sym, ◌∙◌}
use mathlib.Core.Bool.{Bool, true, false, cond}
use mathlib.Core.Logic.{◌≢◌, ◌⊎◌, inl, inr, ⊎_elim}
use native.Mathlib.Decide.{dec_lt}
use native.Mathlib.Omega.{arith}
use lib.Dec.{eqb}
use borrow.Author.Tests.{eq-eqb, ne_eqb, eqb-true, eqb-false}
use Rattle.taxa.specs.Sum.{sum}
use Rattle.taxa.proofs.Sums.{sum_≡, sum_but}
use Rattle.method.specs.Flow.{ColumnFlow, Hop, Turns}

module _ (n : ℕ) (cap : ℕ → ℕ) (thr : ℕ) (out inn : ℕ → ℕ) where
  -- What taxon i can send more, what taxon j can take more, and what the column lets through more.
  unfoldable pub up : ℕ → ℕ
  up i = cap i + inn i - out i

  unfoldable pub down : ℕ → ℕ
  down j = cap j + out j - inn j

  unfoldable pub room : ℕ
  room = thr - sum n out

  -- What turns back at i, or turns back at j, or is let through.
  unfoldable pub most : ℕ → ℕ → ℕ
  most i j = max (max (inn i) (out j)) room

  -- What a hop from i to j carries.
  unfoldable pub carry : ℕ → ℕ → ℕ
  carry i j = min (min (up i) (down j)) (most i j)

-- One column after d units more from i to j, and before.
pub record Moved (n : ℕ) (out inn out' inn' : ℕ → ℕ) (i j d : ℕ) : Type 0 where
  pub from_out : out' i ≡ (out i + d) - inn i
  pub from_inn : inn' i ≡ inn i - (out i + d)
  pub to_out : out' j ≡ out j - (inn j + d)
  pub to_inn : inn' j ≡ (inn j + d) - out j
  pub rest_out : (x : ℕ) → x < n → x ≢ i → x ≢ j → out' x ≡ out x
  pub rest_inn : (x : ℕ) → x < n → x ≢ i → x ≢ j → inn' x ≡ inn x

-- All columns after d units more from i to j through column c.
pub record Hopped (n m : ℕ) (out inn out' inn' : ℕ → ℕ → ℕ) (c i j d : ℕ) : Type 0 where
  pub here : Moved n (out c) (inn c) (out' c) (inn' c) i j d
  pub rest_out : (e : ℕ) → e < m → e ≢ c → (x : ℕ) → x < n → out' e x ≡ out e x
  pub rest_inn : (e : ℕ) → e < m → e ≢ c → (x : ℕ) → x < n → inn' e x ≡ inn e x

-- ---- functions that differ at one or two numbers

pub same? : (a b : ℕ) → (a ≡ b) ⊎ (a ≢ b)
same? a b = go (eqb a b) refl
  where
    go : (t : Bool) → eqb a b ≡ t → (a ≡ b) ⊎ (a ≢ b)
    go true e = inl (eqb-true a b e)
    go false e = inr (eqb-false a b e)

-- `f`, but `v` at `i`.
abbrev pub put : {X : Type 0} → (ℕ → X) → ℕ → X → ℕ → X
put f i v x = cond (eqb x i) v (f x)

pub put_at : {X : Type 0} (f : ℕ → X) (i : ℕ) (v : X) → put f i v i ≡ v
put_at f i v = rw (eq-eqb i i refl)

pub put_off : {X : Type 0} (f : ℕ → X) (i : ℕ) (v : X) (x : ℕ) → x ≢ i → put f i v x ≡ f x
put_off f i v x ne = rw (ne_eqb x i ne)

pub sum_two : (k : ℕ) (g h : ℕ → ℕ) {i j : ℕ} → i < k → j < k → i ≢ j → ((x : ℕ) → x < k → x ≢ i → x ≢ j → g x ≡ h x) → sum k g + h i + h j ≡ sum k h + g i + g j
sum_two k g h {i} {j} bi bj ne off =
    omega (
      arith,
      sum_but k {g = put h i (g i)} {h = h} bi (λ x b n. put_off h i (g i) x n),
      sum_but k {g = g} {h = put h i (g i)} bj (λ x b n. ⊎_elim (λ e. rw e (sym (put_at h i (g i)))) (λ m. off x b m n ∙ sym (put_off h i (g i) x m)) (same? x i)),
      put_at h i (g i),
      put_off h i (g i) j (λ e. ne (sym e)),
    )

-- ---- one column

module _ (n : ℕ) (cap : ℕ → ℕ) (thr : ℕ) (out inn : ℕ → ℕ) where
  pub carry_up : (i j : ℕ) → carry n cap thr out inn i j ≤ up n cap thr out inn i
  unfolding carry
  carry_up i j = omega arith

  pub carry_down : (i j : ℕ) → carry n cap thr out inn i j ≤ down n cap thr out inn j
  unfolding carry
  carry_down i j = omega arith

  pub carry_most : (i j : ℕ) → carry n cap thr out inn i j ≤ most n cap thr out inn i j
  unfolding carry
  carry_most i j = omega arith

  pub carry_some : (i j : ℕ) → 0 < up n cap thr out inn i → 0 < down n cap thr out inn j → 0 < most n cap thr out inn i j → 0 < carry n cap thr out inn i j
  unfolding carry
  carry_some i j a b c = omega arith

  pub most_room : (i j : ℕ) → room n cap thr out inn ≤ most n cap thr out inn i j
  unfolding most
  most_room i j = omega arith

  most_pos : (i j : ℕ) → Turns n cap thr out inn i j → 0 < most n cap thr out inn i j
  unfolding most room
  most_pos i j (inl a) = omega arith
  most_pos i j (inr (inl a)) = omega arith
  most_pos i j (inr (inr a)) = omega arith

  most_turn : (i j : ℕ) → 0 < most n cap thr out inn i j → Turns n cap thr out inn i j
  unfolding most room
  most_turn i j p = go (dec_lt 0 (inn i)) (dec_lt 0 (out j))
    where
      go : Dec (0 < inn i) → Dec (0 < out j) → Turns n cap thr out inn i j
      go (yes a) b = inl a
      go (no a) (yes b) = inr (inl b)
      go (no a) (no b) = inr (inr (omega arith))

three : (a b r d : ℕ) → d ≤ max (max a b) r → (d ≤ a) ⊎ (d ≤ b) ⊎ (d ≤ r)
three a b r d h = go (dec_lt a d) (dec_lt b d)
  where
    go : Dec (a < d) → Dec (b < d) → (d ≤ a) ⊎ (d ≤ b) ⊎ (d ≤ r)
    go (no x) y = inl (omega arith)
    go (yes x) (no y) = inr (inl (omega arith))
    go (yes x) (yes y) = inr (inr (omega arith))

-- The sum s of what runs out, with o for i's entry and p for j's, stays below the limit.
stays : (s s' thr oi ii oj ij d : ℕ) → s' + oi + oj ≡ s + ((oi + d) - ii) + (oj - (ij + d)) → s ≤ thr → min oi ii ≡ 0 → min oj ij ≡ 0 → (d ≤ ii) ⊎ (d ≤ oj) ⊎ (d ≤ thr - s) → s' ≤ thr
stays s s' thr oi ii oj ij d e l a b (inl h) = omega arith
stays s s' thr oi ii oj ij d e l a b (inr (inl h)) = omega arith
stays s s' thr oi ii oj ij d e l a b (inr (inr h)) = omega arith

sides : (o i d : ℕ) → ((o + d) - i) + i ≡ (i - (o + d)) + o + d
sides o i d = omega arith

balances : (oi ii oj ij d : ℕ) {s s' r r' oi' ii' oj' ij' : ℕ} → s' + oi + oj ≡ s + oi' + oj' → r' + ii + ij ≡ r + ii' + ij' → s ≡ r
    → oi' ≡ (oi + d) - ii → ii' ≡ ii - (oi + d) → oj' ≡ oj - (ij + d) → ij' ≡ (ij + d) - oj → s' ≡ r'
balances oi ii oj ij d a b e p q u v = omega (arith, sides oi ii d, sides ij oj d)

-- A column is what its entries are.
pub same_column : {n : ℕ} {cap : ℕ → ℕ} {thr : ℕ} {out inn out' inn' : ℕ → ℕ} → ColumnFlow n cap thr out inn → ((x : ℕ) → x < n → out' x ≡ out x) → ((x : ℕ) → x < n → inn' x ≡ inn x)
    → ColumnFlow n cap thr out' inn'
same_column {n} {cap} {thr} {out} {inn} {out'} {inn'} col o h = record {
  out_fits = λ x b. omega (arith, o x b, col.out_fits x b);
  inn_fits = λ x b. omega (arith, h x b, col.inn_fits x b);
  one_way = λ x b. omega (arith, o x b, h x b, col.one_way x b);
  balance = omega (arith, sum_≡ n {g = out'} {h = out} o, sum_≡ n {g = inn'} {h = inn} h, col.balance);
  limit = omega (arith, sum_≡ n {g = out'} {h = out} o, col.limit);
}

module _ {n : ℕ} {cap : ℕ → ℕ} {thr : ℕ} {out inn : ℕ → ℕ} (col : ColumnFlow n cap thr out inn) {i j : ℕ} (bi : i < n) (bj : j < n) where
  up_pos : out i < cap i → 0 < up n cap thr out inn i
  unfolding up
  up_pos h = omega arith

  down_pos : inn j < cap j → 0 < down n cap thr out inn j
  unfolding down
  down_pos h = omega arith

  pos_up : 0 < up n cap thr out inn i → out i < cap i
  unfolding up
  pos_up h = omega (arith, col.one_way i bi, col.inn_fits i bi)

  pos_down : 0 < down n cap thr out inn j → inn j < cap j
  unfolding down
  pos_down h = omega (arith, col.one_way j bj, col.out_fits j bj)

  -- A hop is open exactly where it carries something.
  pub open_carry : Hop n cap thr out inn i j → 0 < carry n cap thr out inn i j
  open_carry h = carry_some n cap thr out inn i j (up_pos h.up) (down_pos h.down) (most_pos n cap thr out inn i j h.turn)

  pub carry_open : 0 < carry n cap thr out inn i j → Hop n cap thr out inn i j
  carry_open p = record {
    up = pos_up (omega (arith, carry_up n cap thr out inn i j));
    down = pos_down (omega (arith, carry_down n cap thr out inn i j));
    turn = most_turn n cap thr out inn i j (omega (arith, carry_most n cap thr out inn i j));
  }

  module _ {out' inn' : ℕ → ℕ} {d : ℕ} (mv : Moved n out inn out' inn' i j d) (ne : i ≢ j) where
    pub moved_sum : sum n out' + out i + out j ≡ sum n out + out' i + out' j
    moved_sum = sum_two n out' out bi bj ne mv.rest_out

    moved_sum_inn : sum n inn' + inn i + inn j ≡ sum n inn + inn' i + inn' j
    moved_sum_inn = sum_two n inn' inn bi bj ne mv.rest_inn

    -- The column after the hop.
    pub moved : out i + d ≤ cap i + inn i → inn j + d ≤ cap j + out j → d ≤ most n cap thr out inn i j → ColumnFlow n cap thr out' inn'
    unfolding most room
    moved u w r = record {
      out_fits = λ x b. (at x b).0;
      inn_fits = λ x b. (at x b).1;
      one_way = λ x b. (at x b).2;
      balance = balances (out i) (inn i) (out j) (inn j) d moved_sum moved_sum_inn col.balance mv.from_out mv.from_inn mv.to_out mv.to_inn;
      limit = limit;
    }
      where
        limit : sum n out' ≤ thr
        limit = stays (sum n out) (sum n out') thr (out i) (inn i) (out j) (inn j) d (omega (arith, moved_sum, mv.from_out, mv.to_out)) col.limit (col.one_way i bi) (col.one_way j bj) (three (inn i) (out j) (thr - sum n out) d r)

        at : (x : ℕ) → x < n → (out' x ≤ cap x) × (inn' x ≤ cap x) × (min (out' x) (inn' x) ≡ 0)
        at x b = ⊎_elim (λ e. rw e (at_i)) (λ p. ⊎_elim (λ e. rw e (at_j)) (λ q. other p q) (same? x j)) (same? x i)
          where
            at_i : (out' i ≤ cap i) × (inn' i ≤ cap i) × (min (out' i) (inn' i) ≡ 0)
            at_i = (omega (arith, mv.from_out), omega (arith, mv.from_inn, col.inn_fits i bi), omega (arith, mv.from_out, mv.from_inn))

            at_j : (out' j ≤ cap j) × (inn' j ≤ cap j) × (min (out' j) (inn' j) ≡ 0)
            at_j = (omega (arith, mv.to_out, col.out_fits j bj), omega (arith, mv.to_inn), omega (arith, mv.to_out, mv.to_inn))

            other : x ≢ i → x ≢ j → (out' x ≤ cap x) × (inn' x ≤ cap x) × (min (out' x) (inn' x) ≡ 0)
            other p q = let o = mv.rest_out x b p q in let h = mv.rest_inn x b p q in (omega (arith, col.out_fits x b), omega (arith, col.inn_fits x b), omega (arith, col.one_way x b))
