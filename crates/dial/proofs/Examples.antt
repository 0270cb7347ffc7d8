-- The examples, by computing.
use Rattle.std.proofs.Common.{refl}
use lib.Ieee.{round}
use Rattle.dial.specs.Dial.{whole_of}
use Rattle.dial.specs.Examples.{examples, ExamplesHold}

pub examples_hold : ExamplesHold
unfolding examples whole_of round
examples_hold = refl
