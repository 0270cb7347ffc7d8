-- The examples, by computing.
use mathlib.Core.Path.{refl}
use mathlib.Core.Logic.{⊎_elim}
use native.Mathlib.Omega.{arith}
use Rattle.rounding.specs.Fraction.{Fraction, whole, ◌⊕◌, Within}
use Rattle.rounding.specs.Near.{near}
use Rattle.pixel.specs.Move.{naik_murthy, yang_lee, moved_sample, moved}
use Rattle.settings.specs.Setting.{mixed}
use Rattle.key.specs.Hue.{chroma, hue, hue_bound, AnglesWithin}
use Rattle.key.specs.Examples.{rgb, examples, ExamplesHold}

-- angles that are not within w as they stand, nor with a turn added to one of them
not_within : (w x y : Fraction) → (Within w x y → ⊥) → (Within w (x ⊕ whole 360) y → ⊥) → (Within w x (y ⊕ whole 360) → ⊥) → AnglesWithin w x y → ⊥
not_within w x y one two three within = ⊎_elim one (λ turned. ⊎_elim two three turned) within

pub examples_hold : ExamplesHold
unfolding examples near naik_murthy yang_lee moved_sample moved mixed chroma hue
examples_hold = record {
  written = refl;
  hue_in = refl;
  hue_out = refl;
  one_short = refl;
  not_within59 = not_within (whole 59) (hue (rgb 255 1 0)) (hue (rgb 255 255 254)) (λ h. omega (arith, h.0, h.1)) (λ h. omega (arith, h.0, h.1)) (λ h. omega (arith, h.0, h.1));
  mixed = refl;
  mixed_beyond = not_within (hue_bound 1 2) (hue (rgb 127 129 255)) (hue (rgb 0 2 2)) (λ h. omega (arith, h.0, h.1)) (λ h. omega (arith, h.0, h.1)) (λ h. omega (arith, h.0, h.1));
  corners = refl;
  opposite = not_within (whole 180) (whole 0) (whole 180) (λ h. omega (arith, h.0, h.1)) (λ h. omega (arith, h.0, h.1)) (λ h. omega (arith, h.0, h.1));
  not_alike = omega arith;
  two_below = refl;
}
