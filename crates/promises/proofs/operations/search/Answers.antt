-- `promises::operations::search` meets its contract: what the search promises, with the method's split of sets of 64 taxa.
use Rattle.split.proofs.Dividing.{found_split}
use Rattle.promises.proofs.operations.search.Goals as goal

pub returns : goal.returns
returns c =
    let (d, arcs, kept) = c.divide.ensures in (
      record {
        flow = d.flow;
        reached = λ i b. (λ x. (d.reached i b).0 x.is, λ h. record { is = (d.reached i b).1 h });
        is_split = found_split c.requires.0 d;
      },
      kept,
    )
