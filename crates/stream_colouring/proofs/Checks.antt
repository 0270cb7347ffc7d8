-- What the checks of a setting say.
use mathlib.Core.Path.{◌≡◌, refl}
use mathlib.Core.Bool.{true}
use Rattle.refusal.specs.Refusal.{first_of, are_numbered}
use Rattle.refusal.proofs.Laws.{none_applies}
use Rattle.settings.specs.Setting.{SettingInRange}
use Rattle.settings.specs.declared.Setting.{Setting}
use Rattle.settings.specs.declared.Setting.TheVariants.{Off, Mix, Hold}
use borrow.Author.Tests.{ltb-false, le-ltb}
use Rattle.stream_colouring.specs.StreamColour.{setting_checks}

-- a setting that none of them refuses is in range
pub accepted_in_range : (setting : Setting) → first_of (setting_checks setting) ≡ 0 → SettingInRange setting
accepted_in_range Off e = tt
accepted_in_range (Mix k) e = ltb-false 256 k (none_applies (setting_checks (Mix k)) refl e).0
accepted_in_range (Hold v) e = ltb-false 765 v (none_applies (setting_checks (Hold v)) refl e).0

-- each of them has a number above 0
pub are_setting_checks : (setting : Setting) → are_numbered (setting_checks setting) ≡ true
are_setting_checks Off = refl
are_setting_checks (Mix k) = refl
are_setting_checks (Hold v) = refl

-- and none refuses a setting in range
pub in_range_accepted : (setting : Setting) → SettingInRange setting → first_of (setting_checks setting) ≡ 0
in_range_accepted Off ok = refl
in_range_accepted (Mix k) ok = rw (le-ltb 256 k ok) refl
in_range_accepted (Hold v) ok = rw (le-ltb 765 v ok) refl
