-- The whole text of an answer's value: that of all its taxa, and the semicolon (`all_able`, `all_put`).
use mathlib.Core.Path.{◌≡◌, sym, ap, ◌∙◌}
use mathlib.Core.List.{List, [], ◌∷◌, ◌++◌}
use Prim.Native.Nat.{ℕ, ◌+◌, ◌<◌}
use native.Mathlib.Omega.{arith}
use lib.ListN.{length, set, length-append}
use Rattle.taxa.specs.Sets.{all}
use Rattle.taxa.proofs.Members.{in_pos, in_all, all_<}
use Rattle.record.specs.Bytes.{over}
use Rattle.answer.specs.declared.Answer.{Answer}
use Rattle.grammar.specs.Bytes.{byte, semicolon}
use Rattle.clades.specs.Draw.{drawn}
use Rattle.spelling.specs.Write.{name_in}
use Rattle.spelling.specs.inner.Spell.{spelling, text_for, groups_of, Tellable, Spellable, Put}
use Rattle.spelling.proofs.Texts.{written_text}
use Rattle.spelling.proofs.Putting.{then_byte}

module _ (a : Answer) (list : List ℕ) {room : List ℕ} (t : Tellable a list room) where
  abbrev body : List ℕ
  body = spelling (groups_of a) list (all a.n)

  text_is : text_for (groups_of a) list a.n ≡ body ++ byte semicolon ∷ []
  text_is = written_text (drawn (name_in list) (groups_of a) (all a.n))

  pub body_room : length body < length room
  body_room = omega (arith, t.room, ap length text_is, length-append body (byte semicolon ∷ []))

  pub all_able : Spellable list (all a.n) 0 body room
  all_able = record { some = in_pos (in_all a.n {i = 0} t.some); named = rw t.named (all_< a.n); room = omega (arith, body_room) }

  pub all_put : {new : List ℕ} {end : ℕ} → Put body 0 room new end → Put (text_for (groups_of a) list a.n) 0 room (set new end (byte semicolon)) (end + 1)
  all_put {end = end} p = record {
    is = then_byte body (byte semicolon) 0 end p (omega (arith, body_room, p.ends)) ∙ ap (λ s. over s 0 room) (sym text_is);
    ends = omega (arith, p.ends, ap length text_is, length-append body (byte semicolon ∷ []));
  }
