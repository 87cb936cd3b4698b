-- `taxa::plane_in` meets its contract: a count is at most 64.
use borrow.Author.Rules.{rules}
use Rattle.taxa.specs.Sets.{◌∩◌}
use Rattle.taxa.proofs.Counts.{count_le}
use Rattle.taxa.proofs.plane_in.Goals as goal

pub overflow_add-result : goal.overflow_add-result
overflow_add-result c = search (rules, count_le 64 (c.args.plane ∩ c.args.x))

pub returns : goal.returns
returns c = search (rules, count_le 64 (c.args.plane ∩ c.args.x))
