-- `spelling::spell::spell_name` meets its contract: the bytes that were found are the name, and they are put where they belong.
use mathlib.Core.Path.{◌≡◌, sym, ap, ◌∙◌}
use mathlib.Core.List.{List}
use Prim.Native.Nat.{ℕ, ◌+◌, ◌-◌}
use native.Mathlib.Omega.{arith}
use lib.ListN.{length, take, drop, length-take, length-drop}
use Rattle.record.proofs.Over.{lends}
use Rattle.names.specs.declared.Found.{Found}
use Rattle.names.specs.Read.{Locates}
use Rattle.spelling.specs.Write.{name_in}
use Rattle.spelling.proofs.spell.spell_name.Goals as goal

module _ {list : List ℕ} {taxon : ℕ} {r : Found} (f : Locates list taxon r) where
  found_is : take (r.place + r.length - r.place) (drop r.place list) ≡ name_in list taxon
  found_is = let e : r.place + r.length - r.place ≡ r.length = omega arith in ap (λ k. take k (drop r.place list)) e ∙ f.is

  found_long : length (name_in list taxon) ≡ r.length
  found_long = ap length (sym f.is) ∙ simp (length-take, length-drop) (omega (arith, f.within))

pub name_at-found-requires : goal.name_at-found-requires
name_at-found-requires c = c.requires.named

pub put_bytes-requires : goal.put_bytes-requires
put_bytes-requires c =
    let f = c.name_at-found.ensures in
    let p = c.requires in
    rw (found_is f) (simp (length-take, length-drop) (omega (arith, p.room)))

pub returns : goal.returns
returns c =
    let f = c.name_at-found.ensures in
    record { is = lends _ _ _ (c.put_bytes.ensures ∙ rw (found_is f)); ends = omega (arith, found_long f) }
