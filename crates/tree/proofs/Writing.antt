-- The value that is handed to the writing of answers holds the content that the lists of groups and flips make (`tree_held`, `whole_held`).
use mathlib.Core.Path.{◌≡◌, ap, ◌∙◌}
use mathlib.Core.List.{List, [], map}
use Prim.Native.Nat.{ℕ}
use lib.ListN.{length}
use Rattle.method.specs.Tree.{Group, Flips, total}
use Rattle.answer.specs.declared.Answer.{Answer}
use Rattle.answer.specs.Content.{Content, content_of}
use Rattle.answer.specs.Writing.{Writes}
use Rattle.tree.specs.Lists.{first_groups, first_flips}
use Rattle.tree.specs.inner.Lists.{Room, FlipRoom}
use Rattle.tree.specs.Build.{tree_with, with_flips}
use Rattle.tree.specs.inner.Grow.{written_as, tree_of, Answers}
use Rattle.tree.proofs.Lists.{taxa_of, costs_of, columns_of, raised_of, lowered_of}
use Rattle.std.specs.Prelude.{Result}
use Rattle.record.specs.declared.refusal.Refusal.{Refusal}
use Rattle.tree.specs.declared.Built.{Built}

pub tree_held : {ts cs : List ℕ} {g t : ℕ} {gs : List Group} (n m f : ℕ) → Room g ts cs → g ≡ length gs → first_groups ts cs g ≡ gs → t ≡ total gs
    → tree_of (record { n = n; m = m; groups = g; flips = f; total = t; taxa = ts; costs = cs }) ≡ tree_with n m gs
tree_held {ts} {cs} {g} n m f room many groups sum = λ i. record {
  n = n;
  m = m;
  groups = many i;
  flips = 0;
  total = sum i;
  taxa = (taxa_of ts cs g room.taxa_room ∙ ap (map (λ (x : Group). x.taxa)) groups) i;
  costs = (costs_of ts cs g room.costs_room ∙ ap (map (λ (x : Group). x.cost)) groups) i;
  columns = [];
  raised = [];
  lowered = [];
}

-- A value that counts no flips holds its tree alone.
pub tree_only : (a : Answer) → a.flips ≡ 0 → content_of a [] [] [] ≡ tree_of a
tree_only a e = λ i. content_of (record { n = a.n; m = a.m; groups = a.groups; flips = e i; total = a.total; taxa = a.taxa; costs = a.costs }) [] [] []

pub whole_held : {ns us ds : List ℕ} {f : ℕ} {fs : List Flips} (a : Answer) → FlipRoom f ns us ds → f ≡ length fs → first_flips ns us ds f ≡ fs
    → content_of (record { n = a.n; m = a.m; groups = a.groups; flips = f; total = a.total; taxa = a.taxa; costs = a.costs }) ns us ds
    ≡ with_flips (tree_of a) fs
whole_held {ns} {us} {ds} {f} a room many list = λ i. record {
  n = a.n;
  m = a.m;
  groups = a.groups;
  flips = many i;
  total = a.total;
  taxa = (tree_of a).taxa;
  costs = (tree_of a).costs;
  columns = (columns_of ns us ds f room.columns_room ∙ ap (map (λ (x : Flips). x.column)) list) i;
  raised = (raised_of ns us ds f room.raised_room ∙ ap (map (λ (x : Flips). x.raised)) list) i;
  lowered = (lowered_of ns us ds f room.lowered_room ∙ ap (map (λ (x : Flips). x.lowered)) list) i;
}

-- What writing answers is what the build answers.
pub answers_as : {c c' : Content} {entries entries' : ℕ} {out out' : List ℕ} {w : Result ℕ Refusal} {r : Result Built Refusal} → Writes c' entries' out w out' → c' ≡ c
    → entries' ≡ entries → r ≡ written_as c.total w
    → Answers c entries out r out'
answers_as {c} {out = out} h e n is =
    let w = rw (e, n) at h.answers in
    record { answers = is ∙ ap (written_as c.total) w; output = rw (e, w) at h.out_after }
