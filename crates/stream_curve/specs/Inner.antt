-- What the functions of this crate that no customer calls ensure.
use Rattle.std.specs.Prelude.{◌≡◌, List, ℕ, Option, Some, None, Result, Ok, Err}
use Rattle.curve_bytes.specs.CurveBytes.{curve_bytes}
use Rattle.shot.specs.declared.Answer.{Answer}
use Rattle.shot.specs.declared.Shot.{Shot}
use Rattle.pieces.specs.Pieces.{pieces_of}
use Rattle.pieces.specs.declared.Failure.{Failure}
use Rattle.pieces.specs.declared.Failure.TheVariants.{Refused, NotRead, NotWritten}
use Rattle.stream_curve.specs.StreamCurve.{measured_in_turn}

-- Measuring handed back the shot, or was refused by the number.
abbrev pub Measures : Answer → Result Shot Failure → Type 0
Measures answer (Ok shot) = answer ≡ record { shot = shot; number = 0 }
Measures answer (Err (Refused number)) = (answer.number ≡ number) × (number ≡ 0 → ⊥)
Measures answer (Err NotRead) = Unit {0}
Measures answer (Err NotWritten) = ⊥

-- Fixing handed back the shot whose curve the bytes are, or was refused by the number.
abbrev pub Fixes : Answer → Result (List ℕ) Failure → Type 0
Fixes answer (Ok bytes) = (answer.number ≡ 0) × (bytes ≡ curve_bytes answer.shot.curve)
Fixes answer (Err (Refused number)) = (answer.number ≡ number) × (number ≡ 0 → ⊥)
Fixes answer (Err NotRead) = ⊥
Fixes answer (Err NotWritten) = ⊥

-- The shot y and what is left of a stream come to what the shot x and all of it come to, where the stream is known.
abbrev pub ComesTo : Option (List ℕ) → Shot → Option (List ℕ) → Shot → Type 0
ComesTo None x rest y = Unit {0}
ComesTo (Some stream) x None y = ⊥
ComesTo (Some stream) x (Some rest) y = measured_in_turn y (pieces_of rest) ≡ measured_in_turn x (pieces_of stream)
