-- The cycle of calls {grow, walk} meets its contracts: a group is split, and the walk over its parts comes back as the whole group; a walk goes from part
-- to part, each a group that the workspace is clear for.
use Prim.Native.Nat.{◌-◌, ◌<◌}
use borrow.Author.Rules.{rules}
use native.Mathlib.Omega.{arith}
use mathlib.Core.Path.{◌∙◌}
use lib.ListN.{length, take}
use lib.Seq.{length-take-le}
use borrow.Rule.Slice.PartMut.{take_put}
use Rattle.taxa.specs.Sets.{multiplicity_in, count}
use Rattle.split.proofs.Standing.{kept_all, kept_on}
use Rattle.tree.proofs.Walking.{going_room, going_next, going_end, one_taxon, still_listed, rest_length, loaded_as, part_ready, turns_on, ready_wide}
use Rattle.tree.proofs.Opening.{search_given, listed_parts, listed_fits, parts_ready, parts_clear, parts_fit, grown_group, first_fits}
use Rattle.tree.proofs.grow.+grow_walk.Goals as goal

-- ---- grow

pub grow-returns-then-size-lt2 : goal.grow-returns-then-size-lt2
grow-returns-then-size-lt2 t c =
    let p = c.requires.ready in
    (one_taxon (multiplicity_in c.args.matrix.now.planes) p.0.loaded.parallel (ready_wide p.0) (omega (arith, c.size-size.ensures)), kept_all _)

-- The test of the size was passed: there are two taxa or more.
pub grow-split_group-handed-requires : goal.grow-split_group-handed-requires
grow-split_group-handed-requires t c =
    let p = c.requires.ready in
    let two : 1 < count 64 c.args.group = omega (arith, c.size-size.ensures) in
    (search_given p.0 two, p.0.clear.long, omega (arith, p.1))

pub grow-put-requires : goal.grow-put-requires
grow-put-requires t c =
    let two : 1 < count 64 c.args.group = omega (arith, c.size-size.ensures) in
    first_fits _ c.requires.ready.0 two c.requires.room

pub grow-walk-requires : goal.grow-walk-requires
grow-walk-requires t c =
    let put = c.put in
    let split = c.split_group-handed in
    let ready = c.requires.ready.0 in
    let (handed, kept, cleared) = split.ensures in
    let two : 1 < count 64 c.args.group = omega (arith, c.size-size.ensures) in
    let ps = listed_parts ready two handed in
    let long = split.auto.list in
    let fits = listed_fits ready two handed long in
    rw (kept.columns, kept.weights, kept.planes, kept.taxa) (
      omega (arith, c.size-size.ensures, c.decreases),
      (
        (
          rw c.size-size.ensures (parts_ready ready two handed _ ps (omega (arith, c.requires.ready.1, fits, long))),
          fits,
          omega arith,
        ),
        (
          (loaded_as ready.loaded handed.parallel, parts_clear ready two handed _ ps (cleared ∙ ready.clear.is)),
          parts_fit ready two handed _ _ ps put.ensures.size c.requires.room,
        ),
      ),
    )

pub grow-returns : goal.grow-returns
grow-returns t c =
    let put = c.put.ensures in
    let ready = c.requires.ready.0 in
    let (handed, kept, cleared) = c.split_group-handed.ensures in
    let two : 1 < count 64 c.args.group = omega (arith, c.size-size.ensures) in
    let (walk, kept') = c.walk.ensures in (
      grown_group ready two handed _ (listed_parts ready two handed) put.size (cleared ∙ ready.clear.is) put.list (rw (kept.columns, kept.weights, kept.planes) at walk),
      kept_on kept kept',
    )

-- ---- walk

pub walk-grow-requires : goal.walk-grow-requires
walk-grow-requires t c =
    let l = c.loop-i in
    let a = c.args in
    let p = c.requires in
    let (_, parallel, ws, long, list, going, turns, kept) = l.invariant in
    let all = length-take-le a.k a.list.now p.all_small.1 in
    let here = still_listed a.k l.list a.list.now l.i list (omega arith) in
    let now : l.i < length (take a.k a.list.now) = omega arith in
    let part = p.all_small.0 in
    let small = rw here at (part.small l.i now) in
    let fits = rw here at (part.fits l.i now) in
    let room = rw here at (going_room _ _ going now) in
    rw (kept.columns, kept.weights, kept.planes, kept.taxa) (
      omega (arith, c.decreases, small),
      (
        (
          rw here at (part_ready (take a.k a.list.now) now turns p.loaded.0 parallel (part.short l.i now) ws),
          omega (arith, fits, rest_length a.k l.list, long),
        ),
        omega (arith, p.room),
      ),
    )

pub walk-loop-i-preserved : goal.walk-loop-i-preserved
walk-loop-i-preserved t c =
    let l = c.loop-i in
    let a = c.args in
    let p = c.requires in
    let (_, parallel, ws, long, list, going, turns, kept) = l.invariant in
    let g = rw (kept.columns, kept.weights, kept.planes) at c.grow.ensures.0 in
    let all = length-take-le a.k a.list.now p.all_small.1 in
    let here = still_listed a.k l.list a.list.now l.i list (omega arith) in
    let now : l.i < length (take a.k a.list.now) = omega arith in
    let same = take_put a.k (length l.list - a.k) l.list c.grow.new.list (omega arith) in (
      search rules,
      g.parallel,
      g.workspace ∙ ws,
      search rules,
      same ∙ list,
      going_next _ _ going now (rw here g.columns) (rw here g.groups) (rw here g.many),
      turns_on (take a.k a.list.now) now turns (rw here g.columns),
      kept_on kept c.grow.ensures.1,
    )

pub walk-returns : goal.walk-returns
walk-returns t c =
    let l = c.loop-i in
    let a = c.args in
    let (_, parallel, ws, long, list, going, turns, kept) = l.invariant in
    let (columns, groups, many) = going_end _ _ going (omega (arith, length-take-le a.k a.list.now c.requires.all_small.1)) in
    (record { columns = columns; parallel = parallel; groups = groups; many = many; workspace = ws }, kept)
