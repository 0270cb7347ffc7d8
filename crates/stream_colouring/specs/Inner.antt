-- What the functions of this crate that no customer calls require or ensure.
use Rattle.std.specs.Prelude.{◌≡◌, true, List, ℕ, ◌%◌, length, Option, Result, Ok, Err}
use Rattle.std.specs.Io.KnownBytes.{Consumes, Appends}
use Rattle.pixel.specs.Methods.{method_of}
use Rattle.pixel.specs.Strip.{is_whole}
use Rattle.settings.specs.declared.Setting.{Setting}
use Rattle.curve_bytes.specs.CurveBytes.{curve_entries}
use Rattle.colouring.specs.Colouring.{coloured_under}
use Rattle.pieces.specs.declared.Failure.{Failure}
use Rattle.pieces.specs.declared.Failure.TheVariants.{Refused, NotRead, NotWritten}
use Rattle.stream_colouring.specs.declared.grade.Grade.{Grade}

-- These are the entries of the curve, the method of the number and the setting that were handed in.
pub record IsGrade (curve : List ℕ) (m : ℕ) (s : Setting) (grade : Grade) : Type 0 where
  pub entries : grade.entries ≡ curve_entries curve
  pub method : grade.method ≡ method_of m
  pub setting : grade.setting ≡ s

-- A stream, coloured by them.
abbrev pub coloured_by : Grade → List ℕ → List ℕ
coloured_by grade stream = coloured_under grade.setting grade.method grade.entries stream

-- Of a stream its whole pixels were written, coloured; an answer tells whether that is all of it.
abbrev pub Writes : Grade → List ℕ → Option (List ℕ) → Option (List ℕ) → Result (Unit {0}) Failure → Type 0
Writes grade stream old new (Ok _) = (is_whole (length stream) ≡ true) × Appends old new (coloured_by grade stream)
Writes grade stream old new (Err (Refused number)) =
    (number ≡ 2) × (is_whole (length stream) ≡ true → ⊥) × Appends old new (coloured_by grade stream)
Writes grade stream old new (Err NotRead) = Unit {0}
Writes grade stream old new (Err NotWritten) = Unit {0}

-- Of a stream these whole pixels were read, and they were written, coloured.
pub record Stands (grade : Grade) (stream left : Option (List ℕ)) (old new : Option (List ℕ)) : Type 0 where
  pub done : List ℕ
  pub read : Consumes stream left done
  pub whole : length done % 3 ≡ 0
  pub wrote : Appends old new (coloured_by grade done)
