-- The widths of a key. A key picks pixels by ranges of hue, chroma and intensity; a width is how far such a range has to be opened, since
-- the written pixel may lie that far from the pixel going in (hue), or from what the paper has for it (chroma, intensity, samples).
use Rattle.std.specs.Prelude.{◌≡◌, ℕ, ◌≤◌}
use Rattle.rounding.specs.Fraction.{Fraction, whole, ◌⊗◌, Within, AtMostApart}
use Rattle.pixel.specs.Accuracy.{factor, Tolerance, mission, PixelAccurate, OwnEnds}
use Rattle.pixel.specs.Move.{InRange, intensity, moved}
use Rattle.pixel.specs.Paper.{SamplesWithinHalf}
use Rattle.pixel.specs.declared.Method.{Method}
use Rattle.pixel.specs.declared.Pixel.{Pixel}
use Rattle.key.specs.Hue.{chroma, KeepsHue}

-- Claim: hue is kept by both methods, for every pixel and target. Proved: proofs/Widths.antt, `moves_keep_hue`.
abbrev pub MovesKeepHue : Type 0
MovesKeepHue = (m : Method) (p : Pixel) (f : ℕ) → InRange p → f ≤ 765 → KeepsHue mission.steps p (moved m p f)

-- For a pixel p that is written as q to a tolerance, by the factor k, with the intensity that q should have:
pub record KeyWidths (t : Tolerance) (k target : Fraction) (p q : Pixel) : Type 0 where
  -- hue moves by less than 60 / chroma degrees for each step of the tolerance, the chroma being the written one
  pub hue_width : KeepsHue t.steps p q
  -- the chroma is less than so many steps from the factor times the chroma going in
  pub chroma_width : Within (whole t.steps) (whole (chroma q)) (k ⊗ whole (chroma p))
  -- the intensity is at most so far from the target
  pub intensity_width : AtMostApart t.sum (whole (intensity q)) target
  -- grey stays grey
  pub grey : chroma p ≡ 0 → chroma q ≡ 0

-- Claim: whatever keeps the rules of demand 3 keeps the widths, to the same tolerance. Proved: proofs/Widths.antt, `rules_keep_widths`.
abbrev pub RulesKeepWidths : Type 0
RulesKeepWidths = (t : Tolerance) (k target : Fraction) (p q : Pixel) → PixelAccurate t k target p q → KeyWidths t k target p q

-- For a pixel p that is written as q by the method m at the full balance, with the entry f for its intensity:
pub record BalanceWidths (m : Method) (f : ℕ) (p q : Pixel) : Type 0 where
  -- hue moves by less than 60 / chroma degrees, the chroma is less than a full step from the factor times the chroma going in, the intensity
  -- is at most one from the entry, and grey stays grey
  pub widths : KeyWidths mission (factor m (intensity p) f) (whole f) p q
  -- and each sample is at most half a step from the exact value of the paper's formula
  pub samples : SamplesWithinHalf m f p q

-- Claim: every move keeps the widths, that of black and white to their own targets. Proved: proofs/Widths.antt, `moves_keep_widths`.
abbrev pub MovesKeepWidths : Type 0
MovesKeepWidths = (m : Method) (p : Pixel) (f : ℕ) → InRange p → f ≤ 765 → OwnEnds p f → BalanceWidths m f p (moved m p f)
