-- The widths of a key under each command of the strength dial (document 02, wish 1).
use Rattle.std.specs.Prelude.{◌≡◌, ℕ, ◌≤◌}
use Rattle.pixel.specs.Accuracy.{mission}
use Rattle.pixel.specs.Move.{InRange, intensity}
use Rattle.pixel.specs.Paper.{SamplesWithinHalf}
use Rattle.pixel.specs.declared.Method.{Method}
use Rattle.pixel.specs.declared.Pixel.{Pixel}
use Rattle.settings.specs.Accuracy.{mix_tolerance, tolerance_under, factor_under, intensity_under}
use Rattle.settings.specs.Setting.{full, written_under}
use Rattle.settings.specs.declared.Setting.{Setting}
use Rattle.settings.specs.declared.Setting.TheVariants.{Off, Mix, Hold}
use Rattle.key.specs.Hue.{KeepsHue}
use Rattle.key.specs.Widths.{KeyWidths, BalanceWidths}

-- What a key gets beside the widths of the setting's tolerance.
abbrev pub BesideWidths : Setting → Method → ℕ → Pixel → Pixel → Type 0
-- off: nothing moves at all
BesideWidths Off m f p q = q ≡ p
-- mix: at amount 1 the widths of the full balance
BesideWidths (Mix k) m f p q = k ≡ 256 → BalanceWidths m f p q
-- hold: each sample is at most half a step from the paper's, moved to the held value
BesideWidths (Hold v) m f p q = SamplesWithinHalf m v p q

-- The widths for a pixel p, whose curve's entry is f, that is written as q by the method m under a setting.
pub record WidthsUnder (setting : Setting) (m : Method) (f : ℕ) (p q : Pixel) : Type 0 where
  pub widths : KeyWidths (tolerance_under setting) (factor_under setting m (intensity p) f) (intensity_under setting (intensity p) f) p q
  pub beside : BesideWidths setting m f p q

-- Hue under each command, for a pixel p whose curve's entry is f, by the method m.
pub record HueUnderDial (m : Method) (f : ℕ) (p : Pixel) : Type 0 where
  -- off: no move at all
  pub off : written_under Off m f p ≡ p
  -- mix: less than 120 / written chroma degrees, twice the bound of the full balance
  pub mix : (k : ℕ) → k ≤ 256 → KeepsHue mix_tolerance.steps p (written_under (Mix k) m f p)
  -- at amount 1 less than 60 / written chroma degrees
  pub at_one : KeepsHue mission.steps p (written_under full m f p)
  -- hold: the bound of the full balance
  pub hold : (v : ℕ) → v ≤ 765 → KeepsHue mission.steps p (written_under (Hold v) m f p)

-- Claim: that holds of every pixel and entry. Proved: proofs/Dial.antt, `dial_keeps_hue`.
abbrev pub DialKeepsHue : Type 0
DialKeepsHue = (m : Method) (p : Pixel) (f : ℕ) → InRange p → f ≤ 765 → HueUnderDial m f p
