-- `Loaded::flip` meets its contract.
use mathlib.Core.Path.{refl}
use Rattle.split.proofs.loaded.Loaded.flip.Goals as goal

pub flip_front-requires : goal.flip_front-requires
flip_front-requires c = c.args.self.now.few_columns

pub returns : goal.returns
returns c = (c.flip_front.ensures.0, c.flip_front.ensures.1, record { planes = refl; weights = refl; taxa = refl; columns = refl })
