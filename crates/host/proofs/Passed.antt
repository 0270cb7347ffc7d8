-- What an accepted call has passed.
use mathlib.Core.Path.{◌≡◌, refl}
use mathlib.Core.Bool.{true}
use native.Mathlib.Omega.{arith}
use borrow.Author.Tests.{not-false, eqb-true}
use lib.Dec.{eqb}
use lib.ListN.{length}
use Rattle.refusal.proofs.Laws.{none_applies, accepted}
use Rattle.pixel.specs.Methods.{is_method}
use Rattle.pixel.specs.Strip.{is_whole}
use Rattle.curve.specs.Choices.{is_choice}
use Rattle.curve.specs.Curve.{IsToneCurve}
use Rattle.strip_curve.specs.OneStrip.{strip_checks_of}
use Rattle.strip_curve.proofs.Laws.{StripAccepted, strip_passed}
use Rattle.curve_bytes.specs.CurveBytes.{curve_length, curve_entries, keeps_curve_rule}
use Rattle.curve_bytes.proofs.CurveBytes.{length_entries, curve_sound}
use Rattle.host.specs.Host.{CurveCall, curve_checks, curve_outcome, ColourCall, colour_checks, colour_outcome}

pub record HostCurveAccepted (c : CurveCall) : Type 0 where
  pub known : is_choice c.choice ≡ true
  pub size : length c.curve ≡ curve_length
  pub strip : StripAccepted (length c.strip)

pub curve_passed : (c : CurveCall) → (curve_outcome c).number ≡ 0 → HostCurveAccepted c
unfolding curve_outcome
curve_passed c e =
    let strip = strip_checks_of (length c.strip) in
    let checks = curve_checks (is_choice c.choice) (eqb (length c.curve) curve_length) strip in
    let (known, (sized, none)) = none_applies checks refl e in
    record {
      known = not-false _ known;
      size = eqb-true _ _ (not-false _ sized);
      strip = strip_passed c.strip (accepted strip none);
    }

pub record HostColouringAccepted (c : ColourCall) : Type 0 where
  pub size : length c.curve ≡ curve_length
  pub shape : IsToneCurve (curve_entries c.curve)
  pub known : is_method c.method ≡ true
  pub whole : is_whole (length c.source) ≡ true
  pub same : length c.destination ≡ length c.source

pub colour_passed : (c : ColourCall) → (colour_outcome c).number ≡ 0 → HostColouringAccepted c
unfolding colour_outcome
colour_passed c e =
    let checks =
    colour_checks (eqb (length c.curve) curve_length) (keeps_curve_rule (curve_entries c.curve)) (is_method c.method)
    (is_whole (length c.source)) (eqb (length c.destination) (length c.source)) in
    let (sized, (ruled, (known, (whole, (same, _))))) = none_applies checks refl e in
    let size : length c.curve ≡ curve_length = eqb-true _ _ (not-false _ sized) in
    record {
      size = size;
      shape = curve_sound (curve_entries c.curve) (omega (arith, length_entries c.curve)) (not-false _ ruled);
      known = not-false _ known;
      whole = not-false _ whole;
      same = eqb-true _ _ (not-false _ same);
    }
