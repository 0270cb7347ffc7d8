-- The curve of some strips, for callers.
use mathlib.Core.Path.{◌≡◌}
use mathlib.Core.List.{List}
use Prim.Native.Nat.{ℕ, ◌≤◌, ◌<◌}
use lib.ListN.{length}
use Rattle.tables.specs.Table.{at}
use Rattle.measuring.specs.Histogram.{pixels_in, count_of, count_up_to, cumulative, Counted}
use Rattle.measuring.proofs.Cumulative.{tallies_give_h, h_is_cumulative}
use Rattle.curve.specs.Choices.{choice_of}
use Rattle.curve.specs.Curve.{tone_curve, curve_of, IsToneCurve}
use Rattle.curve.proofs.Curve.{curves_are_tone_curves, tone_curve_same}

module _ (choice : ℕ) (strips : List (List ℕ)) where
  -- it is made from the tally of their pixels
  pub curve_of_tally : (counts : List ℕ) → ((s : ℕ) → s ≤ 765 → at counts s ≡ count_of (pixels_in strips) s)
      → tone_curve (choice_of choice) (length (pixels_in strips)) (cumulative counts) ≡ curve_of choice strips
  unfolding curve_of
  curve_of_tally counts same =
      tone_curve_same (choice_of choice) (length (pixels_in strips)) (cumulative counts) (count_up_to (pixels_in strips))
      (tallies_give_h counts (pixels_in strips) same)

  -- and is a tone curve
  pub curve_of_shape : 0 < length (pixels_in strips) → Counted (pixels_in strips) → IsToneCurve (curve_of choice strips)
  unfolding curve_of
  curve_of_shape some counted =
      curves_are_tone_curves (choice_of choice) (length (pixels_in strips)) (count_up_to (pixels_in strips)) some
      (h_is_cumulative (pixels_in strips) counted)
