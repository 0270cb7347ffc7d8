-- The examples, by computing.
use mathlib.Core.Path.{refl}
use Rattle.rounding.specs.Near.{near}
use Rattle.pixel.specs.Move.{moved, moved_sample, naik_murthy, yang_lee}
use Rattle.settings.specs.Examples.{examples, ExamplesHold}
use Rattle.settings.specs.Setting.{mixed}

pub examples_hold : ExamplesHold
unfolding examples mixed moved moved_sample naik_murthy yang_lee near
examples_hold = refl
