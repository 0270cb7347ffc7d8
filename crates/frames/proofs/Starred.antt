-- The starred reference frames hold, by computation.
use mathlib.Core.Path.{refl}
use Rattle.rounding.specs.Near.{near}
use Rattle.pixel.specs.Move.{moved, moved_sample, naik_murthy, yang_lee}
use Rattle.curve.specs.declared.Choice.TheVariants.{Cube, Equalised}
use Rattle.frames.specs.Starred.{starred, StarredFramesHold}
use Rattle.frames.proofs.TwoPixels.{rising_levels, falling_levels, two_pixel_curve}

pub starred_frames_hold : StarredFramesHold
unfolding starred moved moved_sample naik_murthy yang_lee near
starred_frames_hold = (refl, (refl, (refl, (refl, (refl, (refl, (refl, (refl, (refl, (refl, (refl, (refl, (refl, (refl, (refl, (refl, (refl, (two_pixel_curve Cube 300 600 rising_levels, (two_pixel_curve Cube 600 300 falling_levels, (two_pixel_curve Equalised 300 600 rising_levels, (two_pixel_curve Equalised 600 300 falling_levels, tt)))))))))))))))))))))
