-- What an accepted call hands back.
use mathlib.Core.Path.{◌≡◌}
use mathlib.Core.Bool.{false}
use mathlib.Core.List.{List}
use Prim.Native.Nat.{ℕ, ◌+◌, ◌/◌}
use borrow.Author.Tests.{le-ltb, eq-eqb, ne_eqb}
use native.Mathlib.Omega.{arith}
use lib.ListN.{length}
use Rattle.dial.specs.Dial.{decoded, refusal_of, setting_of}
use Rattle.colouring.specs.Colouring.{coloured_under}
use Rattle.measuring.specs.Histogram.{pixel_limit}
use Rattle.pixel.specs.Methods.{method_of}
use Rattle.shot.specs.Shot.{with_strip, measured, with_curve, fixed_with, ColourRequest, coloured}
use Rattle.shot.specs.declared.Shot.{Shot}
use Rattle.shot.proofs.Passed.{MeasuringAccepted, FixingAccepted, ColouringAccepted}

-- the shot with the strip's pixels,
pub measured_is : (x : Shot) (strip : List ℕ) → x.fixed ≡ false → MeasuringAccepted x strip
    → measured x strip ≡ record { shot = with_strip x strip; number = 0 }
unfolding measured
measured_is x strip unfixed ok = simp (unfixed, ok.whole, le-ltb pixel_limit (x.pixels + length strip / 3) ok.room)

-- the shot with the curve,
pub fixed_is : (x : Shot) (choice : ℕ) → x.fixed ≡ false → FixingAccepted x choice
    → fixed_with x choice ≡ record { shot = with_curve x choice; number = 0 }
unfolding fixed_with
fixed_is x choice unfixed ok = simp (unfixed, ok.known, ne_eqb x.pixels 0 (λ e. omega (arith, ok.some)))

-- and the shot as it is, with the source's pixels coloured by its curve
pub coloured_is : (x : Shot) (q : ColourRequest) → ColouringAccepted x q → refusal_of (decoded q.dial) ≡ 0
    → coloured x q
    ≡ record {
      answer = record { shot = x; number = 0 };
      bytes = coloured_under (setting_of (decoded q.dial)) (method_of q.method) x.curve q.source;
    }
unfolding coloured
coloured_is x q ok set = simp (ok.is_fixed, ok.known, ok.whole, eq-eqb _ _ ok.same, set)
