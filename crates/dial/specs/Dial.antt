-- What the strength dial's commands are decoded to, by the exact values of their floats (document 02, wish 1: "an amount counts only if it
-- is exactly k/256, k from 0 to 256; minus zero is zero in both"; "Hold takes a whole intensity 0 to 765").
use Rattle.std.specs.Prelude.{◌≡◌, ℕ, ◌*◌, ◌/◌, ◌≤◌, Bool, true, false, cond, not, ◌&&◌, ◌||◌, ◌↔◌, pos, ◌==◌, nat_le, Float, Option, None, Some, Result, Ok, Err}
use Rattle.refusal.specs.Numbers.{number_in}
use Rattle.refusal.specs.declared.Refusal.{Refusal}
use Rattle.refusal.specs.declared.Refusal.TheVariants.{NotAStop, NotAnIntensity}
use Rattle.std.specs.Float.{nan, inf, fin}
use Rattle.std.specs.Float.Ieee.{up, down}
use Rattle.settings.specs.declared.Setting.{Setting}
use Rattle.settings.specs.declared.Setting.TheVariants as S
use Rattle.dial.specs.declared.Dial.{Dial}
use Rattle.dial.specs.declared.Dial.TheVariants as D

-- Whether k may have this sign (true: minus): a minus sign stands before 0 only.
abbrev pub may_have_sign : ℕ → Bool → Bool
may_have_sign k s = not s || k == 0

-- The float is k / n exactly. A float is NaN, an infinity, or `fin s m e`: m × 2 ^ e with the sign s, where 2 ^ e is up e / down e.
abbrev pub IsExactly : Float → ℕ → ℕ → Type 0
IsExactly nan k n = ⊥
IsExactly (inf s) k n = ⊥
IsExactly (fin s m e) k n = (may_have_sign k s ≡ true) × (m * up e * n ≡ k * down e)

-- k, where it is num / den with this sign and at most top.
abbrev pub whole_if : Bool → ℕ → ℕ → ℕ → ℕ → Option ℕ
whole_if s num den top k = cond (may_have_sign k s && (num == k * den && nat_le k top)) (Some k) None

-- n times the exact value of a float, where that is a whole number from 0 to top: only its whole part can be it.
unfoldable pub whole_of : ℕ → ℕ → Float → Option ℕ
whole_of n top nan = None
whole_of n top (inf s) = None
whole_of n top (fin s m e) = whole_if s (m * up e * n) (down e) top (m * up e * n / down e)

-- What a command is decoded to: a setting, or what is wrong with it.
abbrev pub Decoded : Type 0
Decoded = Result Setting Refusal

-- A whole number is that of a setting; where there is none, the command is refused.
abbrev pub setting_by : (ℕ → Setting) → Refusal → Option ℕ → Decoded
setting_by setting refusal (Some k) = Ok (setting k)
setting_by setting refusal None = Err refusal

-- An amount's whole number is the stop.
abbrev pub as_mix : Option ℕ → Decoded
as_mix = setting_by S.Mix NotAStop

-- A held value's is the intensity.
abbrev pub as_hold : Option ℕ → Decoded
as_hold = setting_by S.Hold NotAnIntensity

-- What a command is decoded to.
abbrev pub decoded : Dial → Decoded
decoded D.Off = Ok S.Off
decoded (D.Mix x) = as_mix (whole_of 256 256 x)
decoded (D.Hold x) = as_hold (whole_of 1 765 x)

-- The number handed back ("amount not a stop, 17; held value not such a whole number, 18").
abbrev pub refusal_of : Decoded → ℕ
refusal_of = number_in

-- The setting; off where the command is refused.
abbrev pub setting_of : Decoded → Setting
setting_of (Ok setting) = setting
setting_of (Err refusal) = S.Off

-- The full balance: the mix at amount 1.
abbrev pub full_balance : Dial
full_balance = D.Mix (fin false 1 (pos 0))

-- Claim: decoding is exact. Proved: proofs/Exact.antt, `decoding_is_exact`.
pub record DecodingIsExact : Type 0 where
  -- off is off
  pub off : decoded D.Off ≡ Ok S.Off
  -- an amount is decoded to the stop k exactly if it is k / 256, k from 0 to 256
  pub mixes : (x : Float) (k : ℕ) → (decoded (D.Mix x) ≡ Ok (S.Mix k)) ↔ (k ≤ 256) × IsExactly x k 256
  -- a held value is decoded to the intensity k exactly if it is k, from 0 to 765
  pub holds : (x : Float) (k : ℕ) → (decoded (D.Hold x) ≡ Ok (S.Hold k)) ↔ (k ≤ 765) × IsExactly x k 1
  -- every other amount is refused by 17
  pub no_stop : (x : Float) → ((k : ℕ) → k ≤ 256 → IsExactly x k 256 → ⊥) → refusal_of (decoded (D.Mix x)) ≡ 17
  -- every other held value is refused by 18
  pub no_intensity : (x : Float) → ((k : ℕ) → k ≤ 765 → IsExactly x k 1 → ⊥) → refusal_of (decoded (D.Hold x)) ≡ 18
