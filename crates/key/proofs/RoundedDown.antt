-- Rounding down keeps differences too.
use mathlib.Core.Path.{◌≡◌}
use Prim.Native.Nat.{ℕ, ◌+◌, ◌*◌, ◌/◌, ◌<◌, ◌≤◌}
use native.Mathlib.Nat.{add-mul, mul_comm, mul-le-mul_right, div-mul-le_self, lt-div-mul-add}
use native.Mathlib.Omega.{arith}
use Rattle.rounding.specs.Fraction.{◌over◌}
use Rattle.rounding.proofs.Laws.{less_step}
use Rattle.pixel.specs.Accuracy.{KeepsDifferences}
use Rattle.pixel.specs.Move.{Channel, sample, intensity}
use Rattle.pixel.specs.declared.Pixel.{Pixel}
use Rattle.pixel.proofs.Channels.{sample_each}
use Rattle.key.specs.RoundedDown.{rounded_down, KeptRoundingDown, RoundingDownKeepsHue}
use Rattle.key.proofs.Hue.{differences_keep_hue}

module _ (p : Pixel) (f : ℕ) (light : 0 < intensity p) where
  abbrev s : ℕ
  s = intensity p

  -- a sample is at most its fraction, and less than a full step below
  down_above : (c : ℕ) → c * f / s * s ≤ c * f
  down_above c = div-mul-le_self (c * f) s

  down_below : (c : ℕ) → c * f < c * f / s * s + s
  down_below c = lt-div-mul-add light

  written : (a : Channel) → sample (rounded_down p f) a ≡ sample p a * f / s
  written a = sample_each (λ c. c * f / s) p a

  keeps_differences : KeepsDifferences 1 (f over s) p (rounded_down p f)
  keeps_differences = record {
    denominator = light;
    order = λ a b l. rw (written a, written b) (in_order (sample p a) (sample p b) l);
    difference = λ a b. rw (written a, written b) (step (sample p a) (sample p b), step (sample p b) (sample p a));
  }
    where
      in_order : (x y : ℕ) → x ≤ y → x * f / s ≤ y * f / s
      in_order x y l = less_step (x * f / s) (y * f / s) s (omega (arith, down_above x, down_below y, mul-le-mul_right f l))

      step : (x y : ℕ) → x * f / s * s + y * f < y * f / s * s + x * f + 1 * s
      step x y = omega (arith, down_above x, down_below y)

  -- the three fractions add up to the target
  total : p.r * f + p.g * f + p.b * f ≡ f * s
  total = omega (arith, add-mul (p.r + p.g) p.b f, add-mul p.r p.g f, mul_comm f s)

  abbrev out : ℕ
  out = intensity (rounded_down p f)

  parts : out * s ≡ p.r * f / s * s + p.g * f / s * s + p.b * f / s * s
  parts =
      omega (arith, add-mul (p.r * f / s + p.g * f / s) (p.b * f / s) s, add-mul (p.r * f / s) (p.g * f / s) s)

  kept_rounding_down : KeptRoundingDown p f
  kept_rounding_down = record {
    hue = differences_keep_hue 1 (f over s) p (rounded_down p f) keeps_differences;
    intensity_above =
        less_step out f s
        (omega (arith, total, parts, down_above p.r, down_above p.g, down_above p.b));
    intensity_below =
        less_step f (out + 2) s
        (omega (arith, total, parts, add-mul out 2 s, down_below p.r, down_below p.g, down_below p.b));
  }

pub rounding_down_keeps_hue : RoundingDownKeepsHue
rounding_down_keeps_hue = kept_rounding_down
