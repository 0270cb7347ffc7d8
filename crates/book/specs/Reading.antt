-- How the book reads the dial of a colouring (document 02, wish 1): by the exact value of its float, among all stops or all intensities.
use Rattle.std.specs.Prelude.{Bool, true, false, not, ◌&&◌, ◌||◌, cond, ℕ, zero, suc, ◌*◌, eqb, Float, Option, None, Some}
use Rattle.std.specs.Float.{nan, inf, fin}
use Rattle.std.specs.Float.Ieee.{up, down}
use Rattle.settings.specs.declared.Setting.{Setting}
use Rattle.settings.specs.declared.Setting.TheVariants as S
use Rattle.dial.specs.declared.Dial.{Dial}
use Rattle.dial.specs.declared.Dial.TheVariants as D

-- Whether the float is k / n exactly. `fin s m e` is m × 2^e, that is m × up e / down e, with a minus sign where s; such a sign stands before
-- zero alone: "minus zero is zero".
abbrev pub is_quotient : Float → ℕ → ℕ → Bool
is_quotient nan k n = false
is_quotient (inf s) k n = false
is_quotient (fin s m e) k n = (not s || eqb k 0) && eqb (m * up e * n) (k * down e)

-- The k below `end` of which the float is k / n exactly, if there is one.
abbrev pub exact_below : ℕ → ℕ → Float → Option ℕ
exact_below n zero x = None
exact_below n (suc k) x = cond (is_quotient x k n) (Some k) (exact_below n k x)

-- "an amount counts only if it is exactly k/256, k from 0 to 256"
unfoldable pub stop : Float → Option ℕ
stop x = exact_below 256 257 x

-- "a whole intensity 0 to 765"
unfoldable pub held_intensity : Float → Option ℕ
held_intensity x = exact_below 1 766 x

-- Whether there is one.
abbrev pub is_there : Option ℕ → Bool
is_there None = false
is_there (Some k) = true

-- Its amount, where the command has one, is a stop ("amount not a stop, 17").
abbrev pub amount_is_stop : Dial → Bool
amount_is_stop D.Off = true
amount_is_stop (D.Mix x) = is_there (stop x)
amount_is_stop (D.Hold x) = true

-- Its held value, where it has one, is a whole intensity ("held value not such a whole number, 18").
abbrev pub value_is_intensity : Dial → Bool
value_is_intensity D.Off = true
value_is_intensity (D.Mix x) = true
value_is_intensity (D.Hold x) = is_there (held_intensity x)

-- The setting of a number, where there is one; off where there is none.
abbrev pub if_there : (ℕ → Setting) → Option ℕ → Setting
if_there to None = S.Off
if_there to (Some k) = to k

-- The setting that the command is; of a refused one, off.
abbrev pub setting_read : Dial → Setting
setting_read D.Off = S.Off
setting_read (D.Mix x) = if_there S.Mix (stop x)
setting_read (D.Hold x) = if_there S.Hold (held_intensity x)
