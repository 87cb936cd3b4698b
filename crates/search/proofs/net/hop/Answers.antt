-- `net::hop` meets its contract: it is one `send` between the places of the two pairs.
use Prim.Native.Nat.{ℕ, ◌+◌}
use mathlib.Core.Path.{◌≡◌, ◌∙◌}
use Rattle.taxa.specs.Sets.{count, sizes}
use Rattle.search.specs.Workspace.{slot}
use Rattle.search.specs.inner.Places.{IsColumn}
use Rattle.search.specs.Search.{nth}
use Rattle.search.proofs.Workspace.{slot_lt, column_place, can_send, hopped, sent_kept}
use Rattle.search.proofs.net.hop.Goals as goal

-- A place.
place : {row : ℕ → ℕ} {c joined offset at : ℕ} (i : ℕ) → at ≡ offset + count i joined → IsColumn row c joined offset → at ≡ slot row c i
place i q k = q ∙ column_place i k

pub send-requires : goal.send-requires
send-requires c =
    let a = c.args in
    rw (place a.i c.slot-a.ensures c.column_at-column.ensures.0, place a.j c.slot-b.ensures c.column_at-column.ensures.0) (can_send a.ws.now a.joined.now a.offsets.now a.c a.i a.j a.d c.requires)

pub returns : goal.returns
returns c =
    let p = c.requires in
    let a = c.args in
    let row = nth a.joined.now in
    let e = rw (place a.i c.slot-a.ensures c.column_at-column.ensures.0, place a.j c.slot-b.ensures c.column_at-column.ensures.0) at c.send.ensures in
    rw e (
      hopped a.ws.now a.joined.now a.offsets.now a.c a.i a.j a.d p,
      λ m b.
          sent_kept (sizes m row) a.ws.now (slot row a.c a.i) (slot row a.c a.j) a.d
          (slot_lt row m a.c a.i b p.from.taxon p.from.joins) (slot_lt row m a.c a.j b p.to.taxon p.to.joins),
    )

pub column_at-column-requires : goal.column_at-column-requires
column_at-column-requires c = let p = c.requires.from in (p.column, p.offset)

pub slot-a-requires : goal.slot-a-requires
slot-a-requires c = (c.requires.from.taxon, c.column_at-column.ensures.1)

pub slot-b-requires : goal.slot-b-requires
slot-b-requires c = (c.requires.to.taxon, c.column_at-column.ensures.1)
