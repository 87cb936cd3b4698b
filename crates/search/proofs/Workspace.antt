-- Laws of the workspace: each joined pair has a place of its own, a hop changes two places, and only places of pairs change.
use mathlib.Core.Path.{◌≡◌, refl, sym, ap, ap₂, ◌∙◌}
use mathlib.Core.Bool.{Bool, true, false, cond}
use mathlib.Core.List.{List, [], ◌∷◌, ◌++◌}
use mathlib.Core.Logic.{◌≢◌}
use Prim.Native.Nat.{ℕ, zero, suc, ◌+◌, ◌≤◌, ◌<◌}
use native.Mathlib.Nat.{not-suc-le-zero, le_of_suc-le-suc}
use native.Mathlib.Numerals.{add-one}
use native.Mathlib.Decide.{dec_lt}
use native.Mathlib.Omega.{arith}
use lib.IntN.{ℤ, pos, ◌+ℤ◌, ◌-ℤ◌}
use lib.ListN.{length, get_or, set, drop, replicate, length-set, length-append, length-replicate, length-drop, get_or-replicate, get_or-append}
use lib.Seq.{get_or-set_same, get_or-set_other, drop-set-lt}
use Rattle.taxa.specs.Sets.{has, count, sizes}
use Rattle.taxa.proofs.Ranks.{rank_less, sizes_next, sizes_mono}
use Rattle.search.specs.Signed.{out_of, inn_of}
use Rattle.search.specs.inner.Places.{Diff, IsColumn, sent, Clear, CanSend}
use Rattle.search.specs.Workspace.{slot, net_flow, outs, inns, cleared, Kept}
use Rattle.search.specs.Search.{nth}
use Rattle.search.specs.inner.Network.{CanHop}
use Rattle.method.proofs.Carry.{Hopped}
use Rattle.search.proofs.Signed.{add, sub}

-- ---- places

module _ (row : ℕ → ℕ) where
  -- The places of a column are before those of the columns after it,
  slot_here : (c i : ℕ) → i < 64 → has (row c) i ≡ true → slot row c i < sizes (c + 1) row
  unfolding slot
  slot_here c i b h = omega (arith, sizes_next row c, rank_less {i = i} {x = row c} (record { is = h }) b)

  pub slot_lt : (m c i : ℕ) → c < m → i < 64 → has (row c) i ≡ true → slot row c i < sizes m row
  slot_lt m c i bc b h = omega (arith, slot_here c i b h, sizes_mono row {c = c + 1} {m = m} (omega arith))

  slot_column : (c e i x : ℕ) → i < 64 → has (row c) i ≡ true → c < e → slot row c i < slot row e x
  unfolding slot
  slot_column c e i x b h l = omega (arith, slot_here c i b h, sizes_mono row {c = c + 1} {m = e} (omega arith))

  -- and in it they go by taxon.
  slot_taxon : (c i x : ℕ) → has (row c) i ≡ true → i < x → slot row c i < slot row c x
  unfolding slot
  slot_taxon c i x h l = omega (arith, rank_less {i = i} {x = row c} (record { is = h }) l)

  -- Another pair has another place.
  pub slot_injective : (c e i x : ℕ) → i < 64 → x < 64 → has (row c) i ≡ true → has (row e) x ≡ true → slot row c i ≡ slot row e x → (c ≡ e) × (i ≡ x)
  slot_injective c e i x bi bx hi hx q = go (dec_lt c e) (dec_lt e c)
    where
      taxon : c ≡ e → Dec (i < x) → Dec (x < i) → i ≡ x
      taxon p (yes l) b = absurd (omega (arith, slot_taxon c i x hi l, ap (λ (k : ℕ). slot row k x) p))
      taxon p (no a) (yes l) = absurd (omega (arith, slot_taxon e x i hx l, ap (λ (k : ℕ). slot row k i) p))
      taxon p (no a) (no b) = omega arith

      go : Dec (c < e) → Dec (e < c) → (c ≡ e) × (i ≡ x)
      go (yes a) b = absurd (omega (arith, slot_column c e i x bi hi a))
      go (no a) (yes b) = absurd (omega (arith, slot_column e c x i bx hx b))
      go (no a) (no b) = let p : c ≡ e = omega arith in (p, taxon p (dec_lt i x) (dec_lt x i))

-- The place, from what is known of the column.
pub column_place : {row : ℕ → ℕ} {c joined offset : ℕ} (i : ℕ) → IsColumn row c joined offset → offset + count i joined ≡ slot row c i
unfolding slot
column_place i k = ap₂ (λ (x y : ℕ). x + count i y) k.is_offset k.is_joined

-- ---- net flows

module _ (ws : List ℤ) (row : ℕ → ℕ) (c i : ℕ) where
  pub net_joined : has (row c) i ≡ true → net_flow ws row c i ≡ get_or ws (slot row c i) (pos 0)
  unfolding net_flow
  net_joined h = ap (λ (p : Bool). cond p (get_or ws (slot row c i) (pos 0)) (pos 0)) h

  pub net_none : has (row c) i ≡ false → net_flow ws row c i ≡ pos 0
  unfolding net_flow
  net_none h = ap (λ (p : Bool). cond p (get_or ws (slot row c i) (pos 0)) (pos 0)) h

-- The net flow of a pair is the same where its place, if it has one, holds the same.
net_same : (ws ws' : List ℤ) (row : ℕ → ℕ) (c i : ℕ) → (has (row c) i ≡ true → get_or ws' (slot row c i) (pos 0) ≡ get_or ws (slot row c i) (pos 0)) → net_flow ws' row c i ≡ net_flow ws row c i
net_same ws ws' row c i same = go (has (row c) i) refl
  where
    go : (p : Bool) → has (row c) i ≡ p → net_flow ws' row c i ≡ net_flow ws row c i
    go true h = net_joined ws' row c i h ∙ same h ∙ sym (net_joined ws row c i h)
    go false h = net_none ws' row c i h ∙ sym (net_none ws row c i h)

-- ---- a hop

module _ (ws : List ℤ) (J F : List ℕ) (c i j d : ℕ) (can : CanHop J F ws c i j d) where
  abbrev a : ℕ
  a = slot (nth J) c i

  abbrev b : ℕ
  b = slot (nth J) c j

  first : List ℤ
  first = set ws a (get_or ws a (pos 0) +ℤ pos d)

  pub places_apart : a ≢ b
  places_apart e = can.apart (slot_injective (nth J) c c i j can.from.taxon can.to.taxon can.from.joins can.to.joins e).1

  at_to : get_or (sent ws a b d) b (pos 0) ≡ get_or ws b (pos 0) -ℤ pos d
  unfolding first
  at_to = get_or-set_same first b (get_or ws b (pos 0) -ℤ pos d) (pos 0) (omega (arith, can.to.place, length-set ws a (get_or ws a (pos 0) +ℤ pos d)))

  at_from : get_or (sent ws a b d) a (pos 0) ≡ get_or ws a (pos 0) +ℤ pos d
  unfolding first
  at_from = get_or-set_other first b a (get_or ws b (pos 0) -ℤ pos d) (pos 0) places_apart ∙ get_or-set_same ws a (get_or ws a (pos 0) +ℤ pos d) (pos 0) can.from.place

  at_other : (p : ℕ) → p ≢ a → p ≢ b → get_or (sent ws a b d) p (pos 0) ≡ get_or ws p (pos 0)
  unfolding first
  at_other p na nb = get_or-set_other first b p (get_or ws b (pos 0) -ℤ pos d) (pos 0) nb ∙ get_or-set_other ws a p (get_or ws a (pos 0) +ℤ pos d) (pos 0) na

  from_net : net_flow (sent ws a b d) (nth J) c i ≡ net_flow ws (nth J) c i +ℤ pos d
  from_net = rw (net_joined ws (nth J) c i can.from.joins, net_joined (sent ws a b d) (nth J) c i can.from.joins) at_from

  to_net : net_flow (sent ws a b d) (nth J) c j ≡ net_flow ws (nth J) c j -ℤ pos d
  to_net = rw (net_joined ws (nth J) c j can.to.joins, net_joined (sent ws a b d) (nth J) c j can.to.joins) at_to

  other_net : (e x : ℕ) → x < 64 → ((c ≡ e) → i ≢ x) → ((c ≡ e) → j ≢ x) → net_flow (sent ws a b d) (nth J) e x ≡ net_flow ws (nth J) e x
  other_net e x bx ni nj =
      net_same ws (sent ws a b d) (nth J) e x (λ h.
      at_other (slot (nth J) e x)
      (λ q. let (p, t) = slot_injective (nth J) c e i x can.from.taxon bx can.from.joins h (sym q) in ni p t)
      (λ q. let (p, t) = slot_injective (nth J) c e j x can.to.taxon bx can.to.joins h (sym q) in nj p t))

  plus : Diff (outs ws (nth J) c i + d) (inns ws (nth J) c i) (net_flow ws (nth J) c i +ℤ pos d)
  unfolding outs inns
  plus = let p = add (net_flow ws (nth J) c i) (pos d) in omega arith

  minus : Diff (outs ws (nth J) c j) (inns ws (nth J) c j + d) (net_flow ws (nth J) c j -ℤ pos d)
  unfolding outs inns
  minus = let p = sub (net_flow ws (nth J) c j) (pos d) in omega arith

  pub hopped : (n m : ℕ) → n ≤ 64 → Hopped n m (outs ws (nth J)) (inns ws (nth J)) (outs (sent ws a b d) (nth J)) (inns (sent ws a b d) (nth J)) c i j d
  unfolding outs inns
  hopped n m l = record {
    here = record {
      from_out = ap out_of from_net ∙ plus.out;
      from_inn = ap inn_of from_net ∙ plus.inn;
      to_out = ap out_of to_net ∙ minus.out;
      to_inn = ap inn_of to_net ∙ minus.inn;
      rest_out = λ x b p q. ap out_of (other_net c x (omega arith) (λ e t. p (sym t)) (λ e t. q (sym t)));
      rest_inn = λ x b p q. ap inn_of (other_net c x (omega arith) (λ e t. p (sym t)) (λ e t. q (sym t)));
    };
    rest_out = λ e be q x b. ap out_of (other_net e x (omega arith) (λ p. absurd (q (sym p))) (λ p. absurd (q (sym p))));
    rest_inn = λ e be q x b. ap inn_of (other_net e x (omega arith) (λ p. absurd (q (sym p))) (λ p. absurd (q (sym p))));
  }

  pub can_send : CanSend ws a b d
  unfolding outs inns
  can_send = record {
    from = can.from.place;
    to = can.to.place;
    apart = places_apart;
    out = rw (net_joined ws (nth J) c i can.from.joins) at can.out;
    inn = rw (net_joined ws (nth J) c j can.to.joins) at can.inn;
  }

-- ---- what is kept

pub kept_none : (k : ℕ) (ws : List ℤ) → Kept k ws ws
kept_none k ws = record { long = refl; rest = refl }

pub kept_then : {k : ℕ} {ws ws' ws'' : List ℤ} → Kept k ws ws' → Kept k ws' ws'' → Kept k ws ws''
kept_then p q = record { long = q.long ∙ p.long; rest = q.rest ∙ p.rest }

pub sent_kept : (k : ℕ) (ws : List ℤ) (a b d : ℕ) → a < k → b < k → Kept k ws (sent ws a b d)
sent_kept k ws a b d p q = record {
  long = length-set (set ws a (get_or ws a (pos 0) +ℤ pos d)) b (get_or ws b (pos 0) -ℤ pos d) ∙ length-set ws a (get_or ws a (pos 0) +ℤ pos d);
  rest = drop-set-lt k (set ws a (get_or ws a (pos 0) +ℤ pos d)) b (get_or ws b (pos 0) -ℤ pos d) q ∙ drop-set-lt k ws a (get_or ws a (pos 0) +ℤ pos d) p;
}

-- ---- clearing: one store a turn

module _ {A : Type 0} where
  fill_suc : (n : ℕ) (v : A) (d : List A) → n < length d → set (replicate n v ++ drop n d) n v ≡ replicate (suc n) v ++ drop (suc n) d
  fill_suc n v [] l = absurd (not-suc-le-zero l)
  fill_suc zero v (x ∷ d) l = refl
  fill_suc (suc n) v (x ∷ d) l = ap (λ (t : List A). v ∷ t) (fill_suc n v d (le_of_suc-le-suc l))

  pub fill_more : (n : ℕ) (v : A) (d : List A) → n < length d → set (replicate n v ++ drop n d) n v ≡ replicate (n + 1) v ++ drop (n + 1) d
  fill_more n v d l = rw add-one (fill_suc n v d l)

  pub drop_filled : (n : ℕ) (v : A) (d : List A) → drop n (replicate n v ++ d) ≡ d
  drop_filled zero v d = refl
  drop_filled (suc n) v d = drop_filled n v d

pub cleared_kept : {k : ℕ} (ws : List ℤ) {ws' : List ℤ} → ws' ≡ cleared k ws → k ≤ length ws → Kept k ws ws'
cleared_kept {k} ws e l = rw e record {
  long = omega (arith, length-append (replicate k (pos 0)) (drop k ws), length-replicate k (pos 0), length-drop k ws);
  rest = drop_filled k (pos 0) (drop k ws);
}

-- Clearing after a change of the first k numbers is clearing before it.
pub cleared_again : {k : ℕ} {ws ws' : List ℤ} → Kept k ws ws' → cleared k ws' ≡ cleared k ws
cleared_again {k} h = ap (λ (l : List ℤ). replicate k (pos 0) ++ l) h.rest

-- Of numbers that are 0, fewer are.
module _ {A : Type 0} where
  fill_fewer : (j k : ℕ) (v : A) (l : List A) → j ≤ k → replicate j v ++ drop j (replicate k v ++ l) ≡ replicate k v ++ l
  fill_fewer zero k v l b = refl
  fill_fewer (suc j) zero v l b = absurd (not-suc-le-zero b)
  fill_fewer (suc j) (suc k) v l b = ap (λ (t : List A). v ∷ t) (fill_fewer j k v l (le_of_suc-le-suc b))

pub clear_less : {j k : ℕ} {ws : List ℤ} → j ≤ k → Clear k ws → Clear j ws
clear_less {j} {k} {ws} l h = record { long = omega (arith, h.long); is = ap (cleared j) (sym h.is) ∙ fill_fewer j k (pos 0) (drop k ws) l ∙ h.is }

-- What was cleared is clear.
pub cleared_clear : (k : ℕ) (ws : List ℤ) → k ≤ length ws → Clear k (cleared k ws)
cleared_clear k ws l = record {
  long = omega (arith, (cleared_kept {k = k} ws refl l).long);
  is = fill_fewer k k (pos 0) (drop k ws) (omega arith);
}

module _ (row : ℕ → ℕ) (m : ℕ) (ws : List ℤ) (c i : ℕ) (bc : c < m) (bi : i < 64) where
  net_0 : net_flow (cleared (sizes m row) ws) row c i ≡ pos 0
  net_0 = go (has (row c) i) refl
    where
      go : (p : Bool) → has (row c) i ≡ p → net_flow (cleared (sizes m row) ws) row c i ≡ pos 0
      go false h = net_none (cleared (sizes m row) ws) row c i h
      go true h =
          let l = slot_lt row m c i bc bi h in
          net_joined (cleared (sizes m row) ws) row c i h
          ∙ get_or-append (replicate (sizes m row) (pos 0)) (drop (sizes m row) ws) (pos 0) (slot row c i) (rw (length-replicate (sizes m row) (pos 0)) l)
          ∙ get_or-replicate (sizes m row) (slot row c i) (pos 0) (pos 0) l

  pub out_0 : outs (cleared (sizes m row) ws) row c i ≡ 0
  unfolding outs
  out_0 = ap out_of net_0

  pub inn_0 : inns (cleared (sizes m row) ws) row c i ≡ 0
  unfolding inns
  inn_0 = ap inn_of net_0
