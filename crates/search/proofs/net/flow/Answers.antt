-- `net::flow` meets its contract: it reads the number at the pair's place.
use mathlib.Core.Bool.{true}
use mathlib.Core.Path.{◌≡◌, sym, ap, ◌∙◌}
use mathlib.Core.List.{List}
use Prim.Native.Nat.{ℕ, ◌+◌}
use lib.IntN.{ℤ, pos}
use lib.ListN.{get_or}
use borrow.Author.Rules.{rules}
use Rattle.taxa.specs.Sets.{has, count}
use Rattle.search.specs.Signed.{out_of, inn_of}
use Rattle.search.specs.inner.Places.{IsColumn}
use Rattle.search.specs.Workspace.{net_flow, outs, inns}
use Rattle.search.proofs.Workspace.{net_joined, column_place}
use Rattle.search.proofs.net.flow.Goals as goal

-- What stands at the place is the pair's net flow.
is_flow : (ws : List ℤ) (i : ℕ) {joined offset at : ℕ} → at ≡ offset + count i joined → (row : ℕ → ℕ) (e : ℕ) → IsColumn row e joined offset → has (row e) i ≡ true → get_or ws at (pos 0) ≡ net_flow ws row e i
is_flow ws i q row e k h =
    ap (λ (p : ℕ). get_or ws p (pos 0)) (q ∙ column_place i k) ∙ sym (net_joined ws row e i h)

pub returns : goal.returns
unfolding outs inns
returns c = λ row e k h.
    let at = is_flow c.args.ws.now c.args.i c.slot.ensures row e k h in
    let out : c.out_of.result ≡ out_of (get_or c.args.ws.now c.slot.result (pos 0)) = search rules in
    let inn : c.inn_of.result ≡ inn_of (get_or c.args.ws.now c.slot.result (pos 0)) = search rules in
    (out ∙ ap out_of at, inn ∙ ap inn_of at)
