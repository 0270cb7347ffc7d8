-- What the inner functions of a shot's calls make is what the calls hand back, and came from them.
use mathlib.Core.Path.{◌≡◌, refl, sym, ap, subst}
use mathlib.Core.Bool.{true, false}
use mathlib.Core.List.{List}
use Prim.Native.Nat.{ℕ, ◌+◌, ◌-◌, ◌/◌, ◌%◌, ◌≤◌, ◌<◌}
use native.Mathlib.Omega.{arith}
use borrow.Author.Tests.{eq-eqb}
use lib.ListN.{length}
use Rattle.std.specs.Prelude.{Some, is_some, Ok}
use Rattle.pixel.specs.Methods.{is_method, method_of}
use Rattle.pixel.specs.declared.Method.{Method}
use Rattle.pixel.specs.Strip.{pixels_of, Bytes}
use Rattle.settings.specs.Setting.{SettingInRange}
use Rattle.settings.specs.declared.Setting.{Setting}
use Rattle.dial.specs.Dial.{decoded, refusal_of, setting_of}
use Rattle.dial.specs.declared.Dial.{Dial}
use Rattle.dial.proofs.Range.{setting_in_range}
use Rattle.measuring.specs.Histogram.{pixel_limit, with_pixels, cumulative}
use Rattle.measuring.specs.Inner.{CountsFit}
use Rattle.curve.specs.Choices.{is_choice, choice_of}
use Rattle.curve.specs.Curve.{tone_curve, EntriesInRange}
use Rattle.curve.specs.declared.Choice.{Choice}
use Rattle.colouring.specs.Colouring.{coloured_under}
use Rattle.colouring.specs.Inner.{SameSize}
use Rattle.shot.specs.Kept.{kept, entries}
use Rattle.shot.specs.Reachable.{Reachable}
use Rattle.shot.specs.Shot.{measured, fixed_with, coloured}
use Rattle.shot.specs.declared.Shot.TheInside.{Inside}
use Rattle.shot.proofs.Answers.{measured_is, fixed_is, coloured_is}
use Rattle.shot.proofs.Passed.{MeasuringAccepted}
use Rattle.shot.proofs.Premise.{within_limit, counts_fit, from_measure, from_fix, entries_in_range}

-- what a strip is, that has passed the tests of `with_strip`
strip_passed : (x : Inside) (strip : List ℕ) → Reachable (kept x) → length strip % 3 ≡ 0 → length strip / 3 ≤ pixel_limit - x.pixels
    → MeasuringAccepted (kept x) strip
strip_passed x strip r whole room = record { whole = eq-eqb _ _ whole; room = omega (arith, within_limit r, room) }

-- the counts can take it
pub strip_fits : (x : Inside) (strip : List ℕ) → Reachable (kept x) → length strip % 3 ≡ 0 → length strip / 3 ≤ pixel_limit - x.pixels
    → CountsFit x.counts strip
strip_fits x strip r whole room = counts_fit r strip (strip_passed x strip r whole room)

-- the shot with the strip
pub strip_made : (x : Inside) (strip counts : List ℕ) → Reachable (kept x) → is_some x.curve ≡ false
    → length strip % 3 ≡ 0 → length strip / 3 ≤ pixel_limit - x.pixels → counts ≡ with_pixels x.counts (pixels_of strip)
    → record { shot = kept (record { counts = counts; pixels = x.pixels + length strip / 3; curve = x.curve }); number = 0 }
    ≡ measured (kept x) strip
strip_made x strip counts r unfixed whole room same = rw (measured_is (kept x) strip unfixed (strip_passed x strip r whole room), same)

pub strip_reachable : (x : Inside) (strip counts : List ℕ) → Reachable (kept x) → Bytes strip → is_some x.curve ≡ false
    → length strip % 3 ≡ 0 → length strip / 3 ≤ pixel_limit - x.pixels → counts ≡ with_pixels x.counts (pixels_of strip)
    → Reachable (kept (record { counts = counts; pixels = x.pixels + length strip / 3; curve = x.curve }))
strip_reachable x strip counts r bytes unfixed whole room same =
    from_measure strip r bytes (strip_made x strip counts r unfixed whole room same)

-- the shot with its curve
pub curve_made : (x : Inside) (number : ℕ) (choice : Choice) (curve : List ℕ) → is_some x.curve ≡ false
    → is_choice number ≡ true → choice ≡ choice_of number → 0 < x.pixels → curve ≡ tone_curve choice x.pixels (cumulative x.counts)
    → record { shot = kept (record { counts = x.counts; pixels = x.pixels; curve = Some curve }); number = 0 } ≡ fixed_with (kept x) number
unfolding entries
curve_made x number choice curve unfixed known is some same =
    rw (fixed_is (kept x) number unfixed (record { known = known; some = some }), same, is)

pub curve_reachable : (x : Inside) (number : ℕ) (choice : Choice) (curve : List ℕ) → Reachable (kept x) → is_some x.curve ≡ false
    → is_choice number ≡ true → choice ≡ choice_of number → 0 < x.pixels → curve ≡ tone_curve choice x.pixels (cumulative x.counts)
    → Reachable (kept (record { counts = x.counts; pixels = x.pixels; curve = Some curve }))
curve_reachable x number choice curve r unfixed known is some same = from_fix number r (curve_made x number choice curve unfixed known is some same)

-- A shot with a curve is fixed, by that curve.
module _ (x : Inside) (curve : List ℕ) (is : x.curve ≡ Some curve) where
  has_curve : (kept x).fixed ≡ true
  has_curve = rw is refl

  curve_kept : (kept x).curve ≡ curve
  unfolding entries
  curve_kept = rw is refl

  -- so no entry of it is above 765
  pub curve_in_range : Reachable (kept x) → EntriesInRange curve
  curve_in_range r = subst EntriesInRange curve_kept (entries_in_range r has_curve)

  -- and what is written by it is what colouring writes
  pub colours_made : (number : ℕ) (method : Method) (dial : Dial) (setting : Setting) (source destination bytes : List ℕ)
      → is_method number ≡ true → method ≡ method_of number → SameSize source destination → Ok setting ≡ decoded dial → bytes ≡ coloured_under setting method curve source
      → coloured (kept x) (record { method = number; dial = dial; source = source; destination = destination })
      ≡ record { answer = record { shot = kept x; number = 0 }; bytes = bytes }
  colours_made number method dial setting source destination bytes known named sizes set written =
      rw (
        coloured_is (kept x) (record { method = number; dial = dial; source = source; destination = destination })
            (record { is_fixed = has_curve; known = known; whole = sizes.whole; same = sizes.same })
            (sym (ap refusal_of set)),
        written,
        named,
        curve_kept,
        ← set,
      )

-- the setting of an accepted command
pub set_in_range : (dial : Dial) (setting : Setting) → Ok setting ≡ decoded dial → SettingInRange setting
set_in_range dial setting set = subst SettingInRange (sym (ap setting_of set)) (setting_in_range dial)
