-- The setting that a command is decoded to is in its range.
use Rattle.std.proofs.Common.{◌≡◌, ℕ, ◌≤◌, refl, Option, None, Some}
use lib.Ieee.{Float}
use Rattle.settings.specs.Setting.{SettingInRange}
use Rattle.dial.specs.Dial.{Decoded, whole_of, as_mix, as_hold, decoded, setting_of}
use Rattle.dial.specs.declared.Dial.{Dial}
use Rattle.dial.specs.declared.Dial.TheVariants as D
use Rattle.dial.proofs.Exact.{sound}

-- a whole number that was found is at most top
whole_in_range : (n top : ℕ) (x : Float) (to : Option ℕ → Decoded) → ((k : ℕ) → k ≤ top → SettingInRange (setting_of (to (Some k))))
    → SettingInRange (setting_of (to None)) → SettingInRange (setting_of (to (whole_of n top x)))
whole_in_range n top x to is not = go (whole_of n top x) refl
  where
    go : (w : Option ℕ) → whole_of n top x ≡ w → SettingInRange (setting_of (to w))
    go (Some k) found = is k (sound n top x k found).0
    go None found = not

-- of a refused command it is off, which is in range too
pub setting_in_range : (d : Dial) → SettingInRange (setting_of (decoded d))
setting_in_range D.Off = tt
setting_in_range (D.Mix x) = whole_in_range 256 256 x as_mix (λ k le. le) tt
setting_in_range (D.Hold x) = whole_in_range 1 765 x as_hold (λ v le. le) tt
