-- `group::divide` meets its contract: what the search finds is the method's split, and the numbers that it used are cleared.
use Rattle.split.proofs.Dividing.{found_split, used_cleared}
use Rattle.split.proofs.group.divide.Goals as goal

pub returns : goal.returns
returns c =
    let (found, arcs, kept) = c.divide-found.ensures in
    (found_split c.requires.0 found, used_cleared arcs kept c.clear_places.ensures)
