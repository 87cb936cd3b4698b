-- One column of a flow: a set of taxa is cut from the rest exactly where no hop leaves it (`slack_escape`, `escape_slack`).
use Prim.Native.Nat.{ℕ, ◌+◌, ◌≤◌, ◌<◌}
use mathlib.Core.Bool.{Bool}
use mathlib.Core.Logic.{inl, inr}
use native.Mathlib.Decide.{dec_lt}
use native.Mathlib.Omega.{arith}
use Rattle.taxa.specs.Sum.{sum, ∁, inside, outside}
use Rattle.taxa.proofs.Insides.{Some, split, inside_≤, inside_+, inside_term, inside_some, inside_pos, inside_<}
use Rattle.method.specs.Flow.{ColumnFlow, Hop, Turns, cut}

-- A hop that leaves the set `A`.
abbrev pub Escape : (n : ℕ) (cap : ℕ → ℕ) (thr : ℕ) (out inn : ℕ → ℕ) → (ℕ → Bool) → Type 0
Escape n cap thr out inn A = Some n A (λ i. Some n (∁ A) (λ j. Hop n cap thr out inn i j))

module _ {n : ℕ} {cap : ℕ → ℕ} {thr : ℕ} {out inn : ℕ → ℕ} (A : ℕ → Bool) (col : ColumnFlow n cap thr out inn) where
  open col use {out_fits, inn_fits, one_way}

  -- From `A` to the rest runs at most the cut ..
  pub column_≤ : sum n (inside A out) ≤ sum n (inside A inn) + cut n cap thr A
  column_≤ = omega (arith, split n A out, split n A inn, inside_≤ n A out_fits, inside_≤ n (∁ A) inn_fits)

  -- .. and less than the cut exactly where a hop leaves `A`. (Net room at both ends makes a hop, for no taxon sends and takes at once.)
  join : (u : Some n A (λ i. out i < inn i + cap i)) (d : Some n (∁ A) (λ j. inn j < out j + cap j)) → Turns n cap thr out inn u.0 d.0 → Escape n cap thr out inn A
  join (i, bi, ai, u) (j, bj, aj, d) turn = (i, bi, ai, (j, bj, aj, hop))
    where
      hop : Hop n cap thr out inn i j
      hop = record { up = omega (arith, one_way i bi, inn_fits i bi); down = omega (arith, one_way j bj, out_fits j bj); turn = turn }

  pub slack_escape : sum n (inside A out) < sum n (inside A inn) + cut n cap thr A → Escape n cap thr out inn A
  slack_escape lt = go (dec_lt 0 (sum n (inside A inn))) (dec_lt 0 (sum n (outside A out)))
    where
      u : Some n A (λ i. out i < inn i + cap i)
      u = inside_some n A out (λ i. inn i + cap i) (omega (arith, inside_+ n A inn cap))

      d : Some n (∁ A) (λ j. inn j < out j + cap j)
      d = inside_some n (∁ A) inn (λ j. out j + cap j) (omega (arith, inside_+ n (∁ A) out cap, split n A out, split n A inn))

      go : Dec (0 < sum n (inside A inn)) → Dec (0 < sum n (outside A out)) → Escape n cap thr out inn A
      go (yes p) q = let (i, b, a, l) = inside_pos n A inn p in join (i, b, a, omega (arith, out_fits i b)) d (inl l)
      go (no p) (yes q) = let (j, b, a, l) = inside_pos n (∁ A) out q in join u (j, b, a, omega (arith, inn_fits j b)) (inr (inl l))
      go (no p) (no q) = join u d (inr (inr (omega (arith, split n A out))))

  pub escape_slack : Escape n cap thr out inn A → sum n (inside A out) < sum n (inside A inn) + cut n cap thr A
  escape_slack (i, bi, ai, (j, bj, aj, hop)) =
      omega (
        arith,
        split n A out,
        split n A inn,
        inside_< n A out_fits bi ai hop.up,
        inside_< n (∁ A) inn_fits bj aj hop.down,
        inside_term n A inn bi ai,
        inside_term n (∁ A) out bj aj,
        room hop.turn,
      )
    where
      room : Turns n cap thr out inn i j → sum n out < thr + inn i + out j
      room (inl h) = omega arith
      room (inr (inl h)) = omega arith
      room (inr (inr h)) = omega arith
