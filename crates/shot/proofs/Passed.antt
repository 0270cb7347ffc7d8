-- What an accepted call has passed.
use mathlib.Core.Path.{◌≡◌, refl}
use mathlib.Core.Bool.{true}
use mathlib.Core.List.{List}
use Prim.Native.Nat.{ℕ, ◌+◌, ◌/◌, ◌≤◌, ◌<◌}
use native.Mathlib.Omega.{arith}
use borrow.Author.Tests.{not-false, ltb-false, eqb-false, eqb-true}
use lib.Dec.{ltb, eqb}
use lib.ListN.{length}
use Rattle.refusal.proofs.Laws.{none_applies}
use Rattle.pixel.specs.Methods.{is_method}
use Rattle.pixel.specs.Strip.{is_whole}
use Rattle.measuring.specs.Histogram.{pixel_limit}
use Rattle.curve.specs.Choices.{is_choice}
use Rattle.shot.specs.Shot.{measure_checks, measured, fix_checks, fixed_with, ColourRequest, colour_checks_of, coloured}
use Rattle.shot.specs.declared.Shot.{Shot}

pub record MeasuringAccepted (x : Shot) (strip : List ℕ) : Type 0 where
  pub whole : is_whole (length strip) ≡ true
  pub room : x.pixels + length strip / 3 ≤ pixel_limit

pub measure_passed : (x : Shot) (strip : List ℕ) → (measured x strip).number ≡ 0 → MeasuringAccepted x strip
unfolding measured
measure_passed x strip e =
    let (_, (whole, (room, _))) =
    none_applies (measure_checks x.fixed (is_whole (length strip)) (ltb pixel_limit (x.pixels + length strip / 3))) refl e in
    record { whole = not-false _ whole; room = ltb-false _ _ room }

pub record FixingAccepted (x : Shot) (choice : ℕ) : Type 0 where
  pub known : is_choice choice ≡ true
  pub some : 0 < x.pixels

pub fix_passed : (x : Shot) (choice : ℕ) → (fixed_with x choice).number ≡ 0 → FixingAccepted x choice
unfolding fixed_with
fix_passed x choice e =
    let (_, (known, (some, _))) = none_applies (fix_checks x.fixed (is_choice choice) (eqb x.pixels 0)) refl e in
    record { known = not-false _ known; some = omega (arith, eqb-false x.pixels 0 some) }

pub record ColouringAccepted (x : Shot) (q : ColourRequest) : Type 0 where
  pub is_fixed : x.fixed ≡ true
  pub known : is_method q.method ≡ true
  pub whole : is_whole (length q.source) ≡ true
  pub same : length q.destination ≡ length q.source

pub colour_passed : (x : Shot) (q : ColourRequest) → (coloured x q).answer.number ≡ 0 → ColouringAccepted x q
unfolding coloured
colour_passed x q e =
    let (is_fixed, (known, (whole, (same, _)))) =
    none_applies (colour_checks_of x q) refl e in
    record {
      is_fixed = not-false _ is_fixed;
      known = not-false _ known;
      whole = not-false _ whole;
      same = eqb-true _ _ (not-false _ same);
    }
