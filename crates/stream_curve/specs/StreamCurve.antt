-- The tone curve of a stream of pixels of any length: a shot is opened, measures the stream piece by piece, and is fixed.
use Rattle.std.specs.Prelude.{◌≡◌, false, not, List, [], ◌∷◌, ℕ, eqb, length, Result, Ok, Err}
use Rattle.refusal.specs.Refusal.{Check, ◌refuses◌, first_of, if_accepted}
use Rattle.pixel.specs.Strip.{Bytes}
use Rattle.curve.specs.Choices.{is_choice}
use Rattle.curve.specs.Curve.{IsToneCurve}
use Rattle.curve_bytes.specs.CurveBytes.{curve_length, curve_bytes, curve_entries}
use Rattle.shot.specs.Reachable.{Reachable}
use Rattle.shot.specs.Shot.{opened, measured, fixed_with}
use Rattle.shot.specs.declared.Answer.{Answer}
use Rattle.shot.specs.declared.Shot.{Shot}
use Rattle.pieces.specs.Pieces.{pieces_of, joined, EachWhole}
use Rattle.pieces.specs.declared.Failure.{Failure}
use Rattle.pieces.specs.declared.Failure.TheVariants.{Refused, NotRead, NotWritten}

-- What measuring strips in turn hands back: the shot with all of them, or the answer to the first that is refused.
abbrev pub measured_in_turn : Shot → List (List ℕ) → Answer
measured_in_turn x [] = record { shot = x; number = 0 }
measured_in_turn x (strip ∷ strips) =
    let answer = measured x strip in
    if_accepted answer.number (measured_in_turn answer.shot strips) answer

-- What is told of a stream: 0 and the curve's bytes, or the number of a refusal and no byte.
pub record StreamCurve : Type 0 where
  pub number : ℕ
  pub bytes : List ℕ

-- Stream curve 4, 2 or 3, 5. 4: the curve choice is not 1 or 2. Then what a call of the shot is refused for: the measuring of the first piece
-- that is refused, by 2 or 3, or else the fixing, by 5.
abbrev pub curve_checks : (choice measuring fixing : ℕ) → List Check
curve_checks choice measuring fixing =
    not (is_choice choice) refuses 4
    ∷ not (eqb measuring 0) refuses measuring
    ∷ not (eqb fixing 0) refuses fixing
    ∷ []

-- What an opened shot's measuring of a stream hands back.
abbrev pub stream_measured : List ℕ → Answer
stream_measured stream = measured_in_turn opened (pieces_of stream)

-- What fixing that shot then hands back.
abbrev pub stream_fixed : ℕ → List ℕ → Answer
stream_fixed choice stream = fixed_with (stream_measured stream).shot choice

-- What is told of a stream and a choice.
unfoldable pub stream_curve : ℕ → List ℕ → StreamCurve
stream_curve choice stream =
    let number = first_of (curve_checks choice (stream_measured stream).number (stream_fixed choice stream).number) in
    record { number = number; bytes = if_accepted number (curve_bytes (stream_fixed choice stream).shot.curve) [] }

-- An answer tells so; one that the input could not be read tells nothing, since no contract of a reader says when a read fails.
abbrev pub Tells : StreamCurve → Result (List ℕ) Failure → Type 0
Tells told (Ok bytes) = record { number = 0; bytes = bytes } ≡ told
Tells told (Err (Refused number)) = record { number = number; bytes = [] } ≡ told
Tells told (Err NotRead) = Unit {0}
Tells told (Err NotWritten) = ⊥

-- Claim: strips that are whole pixels come to the same, measured in turn or put together. Proved: proofs/Cutting.antt,
-- `any_cutting_measures_alike`.
pub record AnyCuttingMeasuresAlike : Type 0 where
  -- a shot that is not fixed accepts them in turn exactly if it accepts them at once, and refuses them by the same number
  pub number : (x : Shot) → Reachable x → x.fixed ≡ false → (strips : List (List ℕ)) → EachWhole strips
      → (measured_in_turn x strips).number ≡ (measured x (joined strips)).number
  -- what it accepts at once leaves the same shot
  pub same : (x : Shot) → Reachable x → (strips : List (List ℕ)) → EachWhole strips
      → (measured x (joined strips)).number ≡ 0 → measured_in_turn x strips ≡ measured x (joined strips)

-- The fixing of an opened shot that measured the stream as one strip.
abbrev pub fixed_at_once : ℕ → List ℕ → Answer
fixed_at_once choice stream = fixed_with (measured opened stream).shot choice

-- Claim: a stream gets the curve of a shot that measures it as one strip. Proved: proofs/Agreement.antt, `streams_follow_shots`.
pub record StreamsFollowShots : Type 0 where
  -- where that measuring and fixing are accepted, so is the stream, and it gets that shot's curve
  pub curve : (choice : ℕ) (stream : List ℕ) → (measured opened stream).number ≡ 0 → (fixed_at_once choice stream).number ≡ 0
      → stream_curve choice stream ≡ record { number = 0; bytes = curve_bytes (fixed_at_once choice stream).shot.curve }
  -- and no other stream is accepted
  pub only : (choice : ℕ) (stream : List ℕ) → (stream_curve choice stream).number ≡ 0
      → ((measured opened stream).number ≡ 0) × ((fixed_at_once choice stream).number ≡ 0)
  -- what is accepted gets a tone curve, in 1,532 bytes
  pub size : (choice : ℕ) (stream : List ℕ) → Bytes stream → (stream_curve choice stream).number ≡ 0
      → length (stream_curve choice stream).bytes ≡ curve_length
  pub shape : (choice : ℕ) (stream : List ℕ) → Bytes stream → (stream_curve choice stream).number ≡ 0
      → IsToneCurve (curve_entries (stream_curve choice stream).bytes)
