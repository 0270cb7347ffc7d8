-- The invariant of `curve_bytes::none_falls`: what the entries so far and the rest say together.
use mathlib.Core.Path.{◌≡◌}
use mathlib.Core.Bool.{◌&&◌}
use lib.ListN.{drop}
use Rattle.curve_bytes.specs.CurveBytes.{none_falls}
use Rattle.curve_bytes.proofs.none_falls.Given as goal

abbrev pub invariant-loop-entry : goal.invariant-loop-entry
invariant-loop-entry l = (l.rises && none_falls l.before (drop l.entry-index l.curve)) ≡ none_falls 0 l.curve
