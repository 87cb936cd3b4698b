-- A set of one taxon as the sources: a flow from it is a flow from that taxon (`as_one`, `from_one`), and so are the taxa that hops reach (`reach_one`).
use Prim.Native.Nat.{ℕ, ◌<◌}
use mathlib.Core.Path.{◌≡◌, refl, sym, ap, ◌∙◌}
use mathlib.Core.Bool.{Bool, true, false, cond, true≢false}
use mathlib.Core.Logic.{◌≢◌, ◌⊎◌, inl, inr, ⊎_elim}
use native.Mathlib.Omega.{arith}
use lib.Dec.{eqb}
use borrow.Author.Tests.{eq-eqb, eqb-true}
use Rattle.taxa.specs.Sum.{sum, inside}
use Rattle.taxa.proofs.Sums.{sum_0, sum_bump}
use Rattle.method.specs.Flow.{Flow, Reach}
use Rattle.method.specs.inner.Sources.{FlowFrom, ReachFrom}

pub true? : (b : Bool) → (b ≡ true) ⊎ (b ≡ false)
true? true = inl refl
true? false = inr refl

-- What runs between a taxon and all columns, one way.
abbrev pub total : ℕ → (ℕ → ℕ → ℕ) → ℕ → ℕ
total m g i = sum m (λ c. g c i)

-- X holds s and nothing else.
pub record Alone (X : ℕ → Bool) (s : ℕ) : Type 0 where
  pub held : X s ≡ true
  pub one : (x : ℕ) → X x ≡ true → x ≡ s

-- The set of taxon s alone.
abbrev pub only : ℕ → ℕ → Bool
only s x = eqb x s

pub only_alone : (s : ℕ) → Alone (only s) s
only_alone s = record { held = eq-eqb s s refl; one = λ x h. eqb-true x s h }

module _ {X : ℕ → Bool} {s : ℕ} (a : Alone X s) where
  pub alone_off : (x : ℕ) → x ≢ s → X x ≡ false
  alone_off x ne = ⊎_elim (λ h. absurd (ne (a.one x h))) (λ h. h) (true? (X x))

  off_alone : (x : ℕ) → X x ≡ false → x ≢ s
  off_alone x h e = true≢false (sym a.held ∙ ap X (sym e) ∙ h)

  pub inside_alone : {n : ℕ} → s < n → (g : ℕ → ℕ) → sum n (inside X g) ≡ g s
  inside_alone {n} b g =
      omega (
        arith,
        sum_bump n {g = inside X g} {h = λ x. 0} (g s) b (omega (arith, ap (λ (t : Bool). cond t (g s) 0) a.held)) (λ x bx ne. ap (λ (t : Bool). cond t (g x) 0) (alone_off x ne)),
        sum_0 n,
      )

  module _ {n m : ℕ} {cap : ℕ → ℕ → ℕ} {thr : ℕ → ℕ} {out inn : ℕ → ℕ → ℕ} where
    pub as_one : {t size : ℕ} → s < n → FlowFrom n m cap thr out inn X t size → Flow n m cap thr out inn s t size
    as_one b f = record {
      column = f.column;
      through = λ i bi ns nt. f.through i bi (alone_off i ns) nt;
      source = omega (arith, f.source, inside_alone b (total m out), inside_alone b (total m inn));
    }

    pub from_one : {t size : ℕ} → s < n → Flow n m cap thr out inn s t size → FlowFrom n m cap thr out inn X t size
    from_one b f = record {
      column = f.column;
      through = λ i bi h nt. f.through i bi (off_alone i h) nt;
      source = omega (arith, f.source, inside_alone b (total m out), inside_alone b (total m inn));
    }

    pub reach_one : {j : ℕ} → ReachFrom n m cap thr out inn X j → Reach n m cap thr out inn s j
    reach_one {j} (p, h, r) = rw (a.one p h) at r

    pub one_reach : {j : ℕ} → Reach n m cap thr out inn s j → ReachFrom n m cap thr out inn X j
    one_reach r = (s, a.held, r)
