-- A function that only calls another whose contract is its own, in a walk by hand. It says nothing of the crate, and can be copied as it stands.
--     spelled          it is enough to walk with the parameters' machine values written out, and their relations in hand
--     Owed, returned   what the callee's `post` says of its result r, once there is one; and r's relation, as its home asks it
--     owed             that is what the caller owes
-- `returned` and `owed` take `Logic`. The rest assumes nothing.
use mathlib.Core.List.{List, [], ◌∷◌}
use seplogic.Ra.Ura.{Ura}
use mir.Val.{Val}
use base.Logic.{SProp, ent, sep, wand, ex, guard_i, via, id⊢, comm∗, mono_l, fst∗, snd∗, wand_i, apply∗, ex_i}
use types.Logic.{Logic, sem}
use contract.Lifetimes.{Lfts, Shares, AllOutlive}
use contract.Monad.{Fun, fact_use}
use types.Kit.{Item, raw, some, later, given, Goal, Soaks, Seq, ◌$◌, use1, await, pick, learn}
use denote.RattleType.{RattleType}
use denote.Laws.{Is, Are, Ises, Spells, Tellss, valss, shows}
use denote.Steps.{said}
use denote.Signature.{Signature, type_at, types_at}
use denote.Triple.Entry.{Args, Vals, Res, alive}
use denote.Triple.Spec.{Spec, Back, triple_of, Meets}
use denote.Triple.Statement.{Contract}

module _ {M : Type 1} {𝓤 : Ura M} (𝓛 : Logic 𝓤) (S : Signature) (c : Spec 𝓤 S) where
  open 𝓛 use {H}

  abbrev It : Contract 𝓤
  It = triple_of 𝓛 S c

  abbrev at : (y : It.Ghost) → Vals S y.0.0 → It.Ghost
  at y us = ((y.0.0, y.0.1, y.0.2, y.0.3, us), y.1)

  pub spelled : (run : Fun 𝓤) (sp : (κs : Lfts S.lifetimes) → Spells (types_at S.params κs)) → ((κs : Lfts S.lifetimes) → Tellss (types_at S.params κs) (Ises (types_at S.params κs)) (sp κs))
      → ((κs : Lfts S.lifetimes) (qs : Shares S.lifetimes) (bounds : AllOutlive S.lifetimes S.outlives κs) (a : Args S κs) (g : (c κs a).ghost)
      → let y : It.Ghost = ((κs, qs, bounds, a, valss (types_at S.params κs) (sp κs) a), g) in
      Are (types_at S.params κs) (Ises (types_at S.params κs)) a y.0.4 → ent 𝓤 (It.pre y) (run (It.args y) (It.post y)))
      → Meets 𝓛 S run c
  spelled run sp tells walk y =
      let R : SProp 𝓤 = (c y.0.0 y.0.3).requires y.1 in
      let Q : Vals S y.0.0 → SProp 𝓤 = λ us. run (It.args (at y us)) (It.post (at y us)) in
      via 𝓤 (sep 𝓤 R (wand 𝓤 R (Q y.0.4)))
      (via 𝓤 (sep 𝓤 (wand 𝓤 R (Q y.0.4)) R)
      (mono_l 𝓤 R (said 𝓛 S y.0.0 y.0.1 (sp y.0.0) (tells y.0.0) y.0.3 (λ us. wand 𝓤 R (Q us)) y.0.4 (λ are. wand_i 𝓤 _ R _ (walk y.0.0 y.0.1 y.0.2 y.0.3 y.1 are))))
      (comm∗ 𝓤 (wand 𝓤 R (Q y.0.4)) R))
      (apply∗ 𝓤 R (Q y.0.4))

  module _ (y : It.Ghost) (v : Val) where
    abbrev pub Owed : Res S y.0.0 → SProp 𝓤
    Owed r = sep 𝓤 (Back 𝓛 S y.0 v r) ((c y.0.0 y.0.3).ensures y.1 r)

    pub owed : (r : Res S y.0.0) → ent 𝓤 (Owed r) (It.post y v)
    owed r = via 𝓤 (ex 𝓤 Owed) (ex_i 𝓤 Owed r) (𝓛.laws.⇛_intro (ex 𝓤 Owed))

    abbrev R : RattleType
    R = type_at S.result y.0.0

    shown : (r : Res S y.0.0) → ent 𝓤 (Owed r) (sem 𝓛 (R.own_val r (v ∷ [])))
    shown r = via 𝓤 (Back 𝓛 S y.0 v r) (fst∗ 𝓤 (Back 𝓛 S y.0 v r) ((c y.0.0 y.0.3).ensures y.1 r)) (snd∗ 𝓤 (alive 𝓛 S y.0.0 y.0.1) (sem 𝓛 (R.own_val r (v ∷ []))))

    pub returned : {K : Type 0} {Γ : List (Item 𝓤)} {G : Goal 𝓤 H} → K → Soaks G → ((r : Res S y.0.0) → Is R r (v ∷ []) → Seq K 𝓛 (raw (Owed r) ∷ Γ) G) → Seq K 𝓛 (raw (It.post y v) ∷ Γ) G
    returned t z k = use1 𝓛 (later (some (λ r. raw (Owed r)))) (id⊢ 𝓤 (It.post y v)) $ await t z $ pick t (λ r.
        use1 𝓛 (given (Is R r (v ∷ [])) (raw (Owed r))) (fact_use 𝓤 (Is R r (v ∷ [])) (via 𝓤 _ (shown r) (shows 𝓛 R r (v ∷ []))) (guard_i 𝓤 (Is R r (v ∷ [])) (Owed r))) $ learn t (k r))
