-- A shot that is opened, measured by one strip and fixed.
use mathlib.Core.Path.{◌≡◌, refl, sym, ap, subst, ◌∙◌}
use mathlib.Core.Bool.{true}
use mathlib.Core.List.{List, [], ◌∷◌, append-nil}
use Prim.Native.Nat.{ℕ}
use native.Mathlib.Omega.{arith}
use lib.ListN.{length}
use Rattle.pixel.specs.Methods.{is_method, method_of}
use Rattle.pixel.specs.Strip.{is_whole, pixels_of, Bytes}
use Rattle.pixel.proofs.Strips.{whole_means}
use Rattle.measuring.specs.Histogram.{pixels_in}
use Rattle.curve.specs.Choices.{is_choice}
use Rattle.curve.specs.Curve.{curve_of}
use Rattle.strip_curve.proofs.Laws.{StripAccepted}
use Rattle.dial.specs.Dial.{decoded, refusal_of, setting_of}
use Rattle.colouring.specs.Colouring.{coloured_under}
use Rattle.shot.specs.Shot.{opened, with_strip, measured, with_curve, fixed_with, ColourRequest, coloured}
use Rattle.shot.specs.declared.Answer.{Answer}
use Rattle.shot.proofs.Answers.{measured_is, fixed_is, coloured_is}
use Rattle.shot.proofs.Holds.{Holds, holds_opened, holds_strip, curve_of_strips}
use Rattle.shot.proofs.Passed.{MeasuringAccepted}

module _ (strip : List ℕ) (bytes : Bytes strip) (choice : ℕ) (known : is_choice choice ≡ true) (ok : StripAccepted (length strip)) where
  -- what measuring and then fixing hand back
  abbrev measuring_it : Answer
  measuring_it = measured opened strip

  abbrev fixing_it : Answer
  fixing_it = fixed_with measuring_it.shot choice

  -- measuring accepts the strip, and hands back a shot that holds its pixels
  passed : MeasuringAccepted opened strip
  unfolding opened
  passed = record { whole = ok.whole; room = omega (arith, ok.limit) }

  measuring_is : measuring_it ≡ record { shot = with_strip opened strip; number = 0 }
  unfolding opened
  measuring_is = measured_is opened strip refl passed

  held : Holds (with_strip opened strip) (pixels_in (strip ∷ []))
  held =
      subst (Holds (with_strip opened strip)) (sym (append-nil (pixels_of strip)))
      (holds_strip holds_opened strip bytes passed)

  -- fixing accepts that shot
  fixing_is : fixing_it ≡ record { shot = with_curve (with_strip opened strip) choice; number = 0 }
  unfolding opened
  fixing_is =
      ap (λ (a : Answer). fixed_with a.shot choice) measuring_is
      ∙ fixed_is (with_strip opened strip) choice refl
      (record { known = known; some = omega (arith, whole_means (length strip) ok.whole, ok.some) })

  pub measure_accepted : measuring_it.number ≡ 0
  measure_accepted = ap (λ (a : Answer). a.number) measuring_is

  pub fix_accepted : fixing_it.number ≡ 0
  fix_accepted = ap (λ (a : Answer). a.number) fixing_is

  -- and the shot is then fixed, by the strip's curve
  pub is_fixed_lem : fixing_it.shot.fixed ≡ true
  is_fixed_lem = ap (λ (a : Answer). a.shot.fixed) fixing_is

  pub curve_is : fixing_it.shot.curve ≡ curve_of choice (strip ∷ [])
  curve_is = ap (λ (a : Answer). a.shot.curve) fixing_is ∙ curve_of_strips (strip ∷ []) held choice

  -- colouring from it accepts every fitting request, and writes by that curve
  pub colour_accepted : (q : ColourRequest) → is_method q.method ≡ true → is_whole (length q.source) ≡ true
      → length q.destination ≡ length q.source → refusal_of (decoded q.dial) ≡ 0
      → coloured fixing_it.shot q
      ≡ record {
        answer = record { shot = fixing_it.shot; number = 0 };
        bytes = coloured_under (setting_of (decoded q.dial)) (method_of q.method) (curve_of choice (strip ∷ [])) q.source;
      }
  colour_accepted q method whole same set =
      coloured_is fixing_it.shot q (record { is_fixed = is_fixed_lem; known = method; whole = whole; same = same }) set ∙ rw curve_is refl
