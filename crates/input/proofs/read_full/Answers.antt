-- One more read stands behind those before it; an interruption took nothing from the input.
use Rattle.std.proofs.Common.{◌≡◌, ℕ, ◌+◌, ◌-◌, ◌≤◌, List, ◌++◌, length, take, drop, rules, sym, ap, subst, ◌∙◌, le_refl, take-add, drop_at, length-take-le}
use Rattle.std.proofs.lemmas.Slice.{take-put_mid_below}
use Rattle.std.specs.Io.KnownBytes.{Consumes}
use Rattle.std.proofs.KnownBytes.{Consumes-trans, Consumes-kept}
use borrow.Rule.Slice.PartMut.{put_mid, post_of}
use lib.Seq.{take-append-le}
use Rattle.input.proofs.read_full.Goals as goal
use Rattle.input.proofs.read_full.Goals.{in-Ok, in-Err+else-ne}

-- Where ys came to stand in xs from a on, the first a + n are the first a of xs and the first n of ys.
behind : (a k n : ℕ) (xs ys : List ℕ) → a ≤ length xs → n ≤ length ys → take a xs ++ take n ys ≡ take (a + n) (put_mid a k xs ys)
behind a k n xs ys within fits =
    let after = post_of a k xs in
    let from_a : take n (drop a (put_mid a k xs ys)) ≡ take n ys =
    ap (take n) (drop_at (take a xs) (ys ++ after) a (length-take-le a xs within)) ∙ take-append-le n ys after fits in
    sym (take-add a n (put_mid a k xs ys) ∙ ap (λ l. l ++ take n (drop a (put_mid a k xs ys))) (take-put_mid_below a k xs ys a (le_refl _) within) ∙ ap (λ l. take a xs ++ l) from_a)

pub loop-preserved : goal.loop-preserved
loop-preserved g c =
    let was = c.loop.invariant in
    let room = length c.loop.room - c.loop.done in (
      search rules,
      elim c.match-read.branch [ in-Ok w ↦ search rules | in-Err+else-ne w ↦ search rules ],
      elim c.match-read.branch [
        | in-Ok w ↦
            subst (Consumes _ _)
            (behind c.loop.done room w.in-Ok.n c.loop.room c.read.new.buf was.1 w.in-Ok.ensures.bound.0 ∙ ap (λ d. take d (put_mid c.loop.done room c.loop.room c.read.new.buf)) (sym w.done-is))
            (Consumes-trans _ _ _ _ _ was.2 w.in-Ok.ensures.bytes.0)
        | in-Err+else-ne w ↦
            subst (Consumes _ _)
            (sym (take-put_mid_below c.loop.done room c.loop.room c.read.new.buf c.loop.done (le_refl _) was.1) ∙ ap (λ d. take d (put_mid c.loop.done room c.loop.room c.read.new.buf)) (sym w.done-is))
            (Consumes-kept _ _ _ _ was.2 w.in-Err.ensures.bytes)
      ],
    )
