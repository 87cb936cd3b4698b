-- `names::same_name` meets its contract: what is lent of the file are the two names.
use Rattle.names.proofs.Walking.{name_part}
use Rattle.names.proofs.same_name.Goals as goal

pub returns : goal.returns
returns c =
    let args = c.args in
    let file = args.file.now in
    rw (name_part file args.one _ c.after-one_end.ensures, name_part file args.other _ c.after-other_end.ensures) at c.same.ensures
