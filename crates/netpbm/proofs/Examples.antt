-- The examples, by computing.
use mathlib.Core.Path.{refl}
use Rattle.text.specs.Decimal.{value_after}
use Rattle.scanning.specs.Scanning.{run_length}
use Rattle.netpbm.specs.Header.{white_length, field_at, header_in}
use Rattle.netpbm.specs.Examples.{examples, ExamplesHold}

pub examples_hold : ExamplesHold
unfolding examples value_after run_length white_length field_at header_in
examples_hold = refl
