-- What is told of a stream.
use mathlib.Core.Path.{◌≡◌, refl}
use mathlib.Core.Bool.{true, false}
use mathlib.Core.List.{List}
use Prim.Native.Nat.{ℕ}
use borrow.Author.Tests.{ne_eqb}
use Rattle.std.specs.Prelude.{Result, Ok, Err}
use Rattle.curve.specs.Choices.{is_choice}
use Rattle.shot.specs.Shot.{fixed_with}
use Rattle.shot.specs.declared.Shot.{Shot}
use Rattle.pieces.specs.declared.Failure.{Failure}
use Rattle.pieces.specs.declared.Failure.TheVariants.{Refused, NotRead, NotWritten}
use Rattle.stream_curve.specs.StreamCurve.{Tells, stream_measured, stream_curve}
use Rattle.stream_curve.specs.Inner.{Measures, Fixes}

module _ (choice : ℕ) (stream : List ℕ) where
  -- a choice that is none is refused first
  pub choice_refused : is_choice choice ≡ false → Tells (stream_curve choice stream) (Err (Refused 4))
  unfolding stream_curve
  choice_refused unknown = rw unknown refl

  module _ (known : is_choice choice ≡ true) where
    -- then a piece that is refused
    pub piece_refused : (failure : Failure) → Measures (stream_measured stream) (Err failure) → Tells (stream_curve choice stream) (Err failure)
    unfolding stream_curve
    piece_refused (Refused number) (is, above) = simp (known, is, ne_eqb number 0 above)
    piece_refused NotRead told = tt
    piece_refused NotWritten told = told

    -- and then what fixing hands back
    pub fixing_told : (shot : Shot) (answer : Result (List ℕ) Failure) → stream_measured stream ≡ record { shot = shot; number = 0 }
        → Fixes (fixed_with shot choice) answer → Tells (stream_curve choice stream) answer
    unfolding stream_curve
    fixing_told shot (Ok bytes) measured (ok, is) = rw (known, measured, ok, is) refl
    fixing_told shot (Err (Refused number)) measured (is, above) = simp (known, measured, is, ne_eqb number 0 above)
    fixing_told shot (Err NotRead) measured told = absurd told
    fixing_told shot (Err NotWritten) measured told = told
