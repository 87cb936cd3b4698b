-- `spelling::spell::part_of` meets its contract. The invariant: the part so far is that of the groups met so far, which are the last ones.
use mathlib.Core.Path.{◌≡◌, ap, ◌∙◌}
use mathlib.Core.List.{List, reverse}
use Prim.Native.Nat.{ℕ, suc, ◌+◌, ◌-◌, ◌<◌}
use native.Mathlib.Omega.{arith}
use lib.ListN.{length, get_or, drop}
use lib.Seq.{drop-cons, drop-length}
use Rattle.std.proofs.lemmas.Iterator.Adapters.{YieldsList-from_rev_slice}
use Rattle.std.proofs.lemmas.Iterator.Consumers.{YieldsList-turn, YieldsList-end}
use Rattle.std.proofs.lemmas.List.{length-reverse, get_or-reverse, length_push}
use Rattle.clades.specs.Draw.{wider, part}
use Rattle.spelling.proofs.spell.part_of.Goals as goal

-- One group more.
part_next : (gs : List ℕ) (S taxon j k d : ℕ) → suc j ≡ k → j < length gs → wider S (get_or gs j d) (part (drop k gs) S taxon) ≡ part (drop j gs) S taxon
unfolding part
part_next gs S taxon j k d e l = rw (drop-cons gs j d l, ← e)

-- The same, counted from the last group on.
part_back : (gs : List ℕ) (S taxon met G p : ℕ) → met < length (reverse gs) → G ≡ get_or (reverse gs) met G → p ≡ part (drop (length gs - met) gs) S taxon
    → wider S G p ≡ part (drop (length gs - (met + 1)) gs) S taxon
part_back gs S taxon met G p more found so_far =
    let j = length gs - 1 - met in
    let left : met < length gs = omega (arith, length-reverse gs) in
    let here : G ≡ get_or gs j G = found ∙ get_or-reverse gs met G left in
    let next : length gs - (met + 1) ≡ j = omega arith in
    rw next
    (ap (λ (g : ℕ). wider S g p) here
    ∙ ap (wider S (get_or gs j G)) so_far
    ∙ part_next gs S taxon j (length gs - met) G (omega arith) (omega arith))

pub loop-group-init : goal.loop-group-init
unfolding part
loop-group-init c =
    let all : length c.args.groups.now - 0 ≡ length c.args.groups.now = omega arith in
    rw (all, drop-length c.args.groups.now) c.single-part.ensures

pub loop-group-preserved : goal.loop-group-preserved
loop-group-preserved c =
    let a = c.args in
    let l = c.loop-group in
    let (more, found) = YieldsList-turn (YieldsList-from_rev_slice a.groups.now cc) l.yielded _ l.yielded_by _ _ c.in-Some.field-0 c.in-Some.is c.next.ensures.steps in
    rw length_push (c.wider-part.ensures ∙ part_back a.groups.now a.set a.taxon (length l.yielded) _ _ more found l.invariant)

pub returns : goal.returns
returns c =
    let a = c.args in
    let l = c.loop-group in
    let (items, met) = YieldsList-end (YieldsList-from_rev_slice a.groups.now cc) l.yielded _ l.yielded_by _ _ c.in-None.is c.next.ensures.steps in
    let none : length a.groups.now - length l.yielded ≡ 0 = omega (arith, length-reverse a.groups.now) in
    l.invariant ∙ ap (λ (j : ℕ). part (drop j a.groups.now) a.set a.taxon) none
