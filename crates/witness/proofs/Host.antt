-- The witness of the host's claims, by computation.
use mathlib.Core.Path.{refl}
use Rattle.rounding.specs.Near.{near}
use Rattle.tables.specs.Table.{tabulate}
use Rattle.targets.specs.Cube.{G}
use Rattle.pixel.specs.Move.{moved, moved_sample, naik_murthy, yang_lee}
use Rattle.curve.specs.Curve.{share_count, full_count, cube_entry, equalised_entry, with_ends, entry, tone_curve, curve_of}
use Rattle.curve.specs.Nearest.{nearer, nearest_place}
use Rattle.colouring.specs.Colouring.{coloured_strip}
use Rattle.curve_bytes.specs.CurveBytes.{curve_bytes, curve_entries, none_exceeds, none_falls, keeps_curve_rule}
use Rattle.host.specs.Host.{curve_outcome, colour_outcome}
use Rattle.witness.specs.Host.{run, level, falling, dim, curve_calls, colour_calls, WitnessRuns}

pub witness_runs : WitnessRuns
unfolding run level falling dim curve_calls colour_calls curve_outcome colour_outcome curve_bytes curve_entries none_exceeds none_falls keeps_curve_rule tabulate coloured_strip moved moved_sample naik_murthy yang_lee near tone_curve entry with_ends cube_entry equalised_entry share_count full_count nearer nearest_place G curve_of
witness_runs = record {
  curve_numbers = refl;
  lengths = refl;
  untouched = refl;
  cube = refl;
  equalised = refl;
  colour_numbers = refl;
  pixels = refl;
  colour_bytes = refl;
}
