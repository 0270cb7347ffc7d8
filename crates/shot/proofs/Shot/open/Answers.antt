-- `shot::Shot::open`'s shot came from opening. (By the lemma's name above the function the check proves this too; written out, a wrong
-- opening is refused by what is false of it.)
use mathlib.Core.Path.{refl}
use Rattle.shot.specs.Shot.{opened}
use Rattle.shot.specs.Kept.{entries}
use Rattle.shot.proofs.Premise.{from_open}
use Rattle.shot.proofs.Shot.open.Goals as goal

pub invariant_of-result : goal.invariant_of-result
unfolding opened entries
invariant_of-result c = from_open refl
