-- What the widths ask of the rounding, shown on a move that no call makes: each sample rounded down, where document 01 rounds to the nearest.
-- Hue asks only for errors less than a full step apart, and these have them, so it would be kept; the half step and the intensity would not.
use Rattle.std.specs.Prelude.{ℕ, ◌+◌, ◌*◌, ◌/◌, ◌<◌, ◌≤◌}
use Rattle.pixel.specs.Move.{intensity, each_sample}
use Rattle.pixel.specs.declared.Pixel.{Pixel}
use Rattle.key.specs.Hue.{KeepsHue}

-- Method 1's line for a target at most the intensity, c × f / s, rounded down; here for any target.
abbrev pub rounded_down : Pixel → ℕ → Pixel
rounded_down p f = each_sample (λ c. c * f / intensity p) p

-- What p keeps, rounded down: hue to the same bound, and an intensity that is never above the target.
pub record KeptRoundingDown (p : Pixel) (f : ℕ) : Type 0 where
  pub hue : KeepsHue 1 p (rounded_down p f)
  pub intensity_above : intensity (rounded_down p f) ≤ f
  -- two below the target, in place of one: (1, 1, 1) to 2 is black
  pub intensity_below : f ≤ intensity (rounded_down p f) + 2

-- Claim: every pixel but black keeps that much. Proved: proofs/RoundedDown.antt, `rounding_down_keeps_hue`.
abbrev pub RoundingDownKeepsHue : Type 0
RoundingDownKeepsHue = (p : Pixel) (f : ℕ) → 0 < intensity p → KeptRoundingDown p f
