-- The accuracy of a pixel that is written under a setting of the dial (document 02, wish 1; document 00, demand 3).
use Rattle.std.specs.Prelude.{◌≡◌, ◌||◌, cond, ◌⊎◌, ℕ, ◌+◌, ◌-◌, ◌*◌, ◌≤◌, eqb}
use Rattle.rounding.specs.Fraction.{Fraction, whole, ◌over◌, ◌⊕◌, ◌⊗◌, ◌⊘◌}
use Rattle.pixel.specs.Accuracy.{factor, Tolerance, mission, PixelAccurate, OwnEnds}
use Rattle.pixel.specs.Move.{InRange, intensity}
use Rattle.pixel.specs.declared.Method.{Method}
use Rattle.pixel.specs.declared.Pixel.{Pixel}
use Rattle.settings.specs.Setting.{SettingInRange, written_under}
use Rattle.settings.specs.declared.Setting.{Setting}
use Rattle.settings.specs.declared.Setting.TheVariants.{Off, Mix, Hold}

-- "Under mix … the sum is within five halves …, a difference is less than two steps off …, and between pixels of one amount … the one whose
-- input sum is no smaller falls at most five below, in place of two."
abbrev pub mix_tolerance : Tolerance
mix_tolerance = record { steps = 2; sum = 5 over 2; below = 5 }

-- The tolerance under a setting: "at amount 1 the mission's own bounds stay".
abbrev pub tolerance_under : Setting → Tolerance
tolerance_under Off = mission
tolerance_under (Mix k) = cond (eqb k 256) mission mix_tolerance
tolerance_under (Hold v) = mission

-- The factor under a setting, for a pixel of intensity s whose entry is f.
abbrev pub factor_under : Setting → Method → ℕ → ℕ → Fraction
-- "Under off … the factor is 1."
factor_under Off m s f = 1 over 1
-- "(256 − k + k × factor) / 256"
factor_under (Mix k) m s f = (whole (256 - k) ⊕ whole k ⊗ factor m s f) ⊘ whole 256
-- "Under hold … the factor read[s] the held value in place of the entry."
factor_under (Hold v) m s f = factor m s v

-- The intensity that such a pixel should have, the demand's "sum".
abbrev pub intensity_under : Setting → ℕ → ℕ → Fraction
-- "Under off every sample is the source's, which stands in place of the sum rule."
intensity_under Off s f = whole s
-- "(s × (256 − k) + entry × k) / 256"
intensity_under (Mix k) s f = (s * (256 - k) + f * k) over 256
-- "Under hold the sum rule … read[s] the held value in place of the entry, the sum rule for input sums 1 to 764." Black and white stay, and
-- so have their own.
intensity_under (Hold v) s f = whole (cond (eqb s 0 || eqb s 765) s v)

-- What each command keeps beside the rules.
abbrev pub BesideRules : Setting → Method → ℕ → Pixel → Pixel → Type 0
-- "Under off every sample is the source's."
BesideRules Off m f p q = q ≡ p
-- "At amount 1 the mission's own bounds stay": by the factor and the entry themselves.
BesideRules (Mix k) m f p q = k ≡ 256 → PixelAccurate mission (factor m (intensity p) f) (whole f) p q
-- Under hold "black and white pixels still stay".
BesideRules (Hold v) m f p q = (intensity p ≡ 0) ⊎ (intensity p ≡ 765) → q ≡ p

-- The rules of demand 3 for a pixel p, whose curve's entry is f, that is written as q by the method m under a setting.
pub record AccurateUnder (setting : Setting) (m : Method) (f : ℕ) (p q : Pixel) : Type 0 where
  pub rules : PixelAccurate (tolerance_under setting) (factor_under setting m (intensity p) f) (intensity_under setting (intensity p) f) p q
  pub beside : BesideRules setting m f p q

-- Claim: what is written under a setting keeps its rules. Proved: proofs/Accurate.antt, `settings_are_accurate`.
abbrev pub SettingsAreAccurate : Type 0
SettingsAreAccurate =
    (setting : Setting) (m : Method) (p : Pixel) (f : ℕ) → SettingInRange setting → InRange p → f ≤ 765 → OwnEnds p f
    → AccurateUnder setting m f p (written_under setting m f p)

-- Claim: of two pixels written under one setting, by whichever methods, the one whose input intensity and entry are no smaller has an
-- intensity at most so much below the other's as the setting's tolerance says. Proved: proofs/Order.antt, `settings_keep_order`.
abbrev pub SettingsKeepOrder : Type 0
SettingsKeepOrder =
    (setting : Setting) (m n : Method) (p p' q q' : Pixel) (f f' : ℕ) → SettingInRange setting → intensity p ≤ intensity p'
    → intensity p' ≤ 765 → f ≤ f' → AccurateUnder setting m f p q → AccurateUnder setting n f' p' q'
    → intensity q ≤ intensity q' + (tolerance_under setting).below
