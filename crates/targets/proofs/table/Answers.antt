-- `targets::table` meets its contract.
use mathlib.Core.Path.{refl}
use Rattle.targets.specs.Cube.{G}
use Rattle.targets.proofs.Laws.{table_is}
use Rattle.targets.proofs.table.Goals as goal

pub returns : goal.returns
unfolding G
returns c = table_is _ refl tt
