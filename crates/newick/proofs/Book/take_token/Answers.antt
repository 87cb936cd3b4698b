-- `newick::Book::take_token` meets its contract: each token by its own function.
use borrow.Author.Rules.{rules}
use mathlib.Core.Path.{sym, ◌∙◌}
use Rattle.newick.proofs.Places.{wrong_after, wrong_before}
use Rattle.newick.proofs.Signs.{no_sign}
use Rattle.newick.proofs.Book.take_token.Goals as goal
use Rattle.newick.proofs.Book.take_token.Goals.{then-from+else-may_follow, else-from+else-is_at+else-text-at-eq-LEFT}

pub returns-then-is_at : goal.returns-then-is_at
returns-then-is_at c = c.with_sign.ensures _ (rw c.in_ok-named.was at (c.take_name.ensures c.requires.0 (search rules)))

pub returns : goal.returns
returns c =
    let (h, inside, no_blank) = c.requires in
    elim c.if-from.branch [
      | then-from+else-may_follow w ↦
          let (no-right, no-comma, no-semicolon) = no_sign _ (sym w.may_follow.ensures ∙ w.if-may_follow.false) in
          rw c.at.ensures (wrong_after h w.if-from.true inside no_blank no-right no-comma no-semicolon)
      | else-from+else-is_at+else-text-at-eq-LEFT w ↦
          rw c.at.ensures (wrong_before h w.if-from.false inside no_blank (sym w.is_at.ensures ∙ w.if-is_at.false) w.if-text-at-eq-LEFT.false)
    ]
