-- The examples, by computing.
use mathlib.Core.Path.{refl}
use Rattle.rounding.specs.Near.{near}
use Rattle.tables.specs.Table.{tabulate}
use Rattle.targets.specs.Cube.{G}
use Rattle.text.specs.Decimal.{value_after, decimal_within, decimal}
use Rattle.pixel.specs.Move.{naik_murthy, yang_lee, moved_sample, moved}
use Rattle.curve.specs.Curve.{share_count, full_count, cube_entry, with_ends, entry, tone_curve, curve_of}
use Rattle.curve.specs.Nearest.{nearer, nearest_place}
use Rattle.colouring.specs.Colouring.{coloured_strip}
use Rattle.scanning.specs.Scanning.{run_length}
use Rattle.netpbm.specs.Header.{white_length, field_at, header_in, header_text}
use Rattle.still.specs.Still.{balanced, picture, refusal_line, file_number, answer}
use Rattle.still.specs.Examples.{examples, ExamplesHold}

pub examples_hold : ExamplesHold
unfolding examples near tabulate G value_after decimal_within decimal naik_murthy yang_lee moved_sample moved share_count full_count cube_entry with_ends entry tone_curve nearer nearest_place coloured_strip curve_of run_length white_length field_at header_in header_text balanced picture refusal_line file_number answer
examples_hold = refl
