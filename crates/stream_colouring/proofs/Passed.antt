-- What a call that was not refused before its stream has passed, and what it leaves.
use mathlib.Core.Path.{◌≡◌}
use mathlib.Core.Bool.{true}
use mathlib.Core.List.{List}
use Prim.Native.Nat.{ℕ}
use native.Mathlib.Omega.{arith}
use borrow.Author.Tests.{not-false, eqb-true}
use lib.Dec.{eqb}
use lib.ListN.{length}
use Rattle.refusal.proofs.Laws.{none_applies, accepted}
use Rattle.pixel.specs.Methods.{is_method}
use Rattle.settings.specs.Setting.{SettingInRange}
use Rattle.settings.specs.declared.Setting.{Setting}
use Rattle.curve.specs.Curve.{IsToneCurve}
use Rattle.curve_bytes.specs.CurveBytes.{curve_length, curve_entries, keeps_curve_rule}
use Rattle.curve_bytes.proofs.CurveBytes.{length_entries, curve_sound}
use Rattle.stream_colouring.specs.StreamColour.{setting_checks, opening_checks, opening_number}
use Rattle.stream_colouring.proofs.Checks.{accepted_in_range, are_setting_checks}

pub record Opened (curve : List ℕ) (m : ℕ) (s : Setting) : Type 0 where
  pub size : length curve ≡ curve_length
  pub ruled : keeps_curve_rule (curve_entries curve) ≡ true
  pub known : is_method m ≡ true
  pub in_range : SettingInRange s

pub opened : (curve : List ℕ) (m : ℕ) (s : Setting) → opening_number curve m s ≡ 0 → Opened curve m s
opened curve m s e =
    let checks = opening_checks (eqb (length curve) curve_length) (keeps_curve_rule (curve_entries curve)) (is_method m) s in
    let (sized, (ruled, (known, rest))) = none_applies checks (are_setting_checks s) e in
    record {
      size = eqb-true _ _ (not-false _ sized);
      ruled = not-false _ ruled;
      known = not-false _ known;
      in_range = accepted_in_range s (accepted (setting_checks s) rest);
    }

-- its curve is a tone curve
pub opened_shape : {curve : List ℕ} {m : ℕ} {s : Setting} → Opened curve m s → IsToneCurve (curve_entries curve)
opened_shape {curve} o = curve_sound (curve_entries curve) (omega (arith, length_entries curve, o.size)) o.ruled
