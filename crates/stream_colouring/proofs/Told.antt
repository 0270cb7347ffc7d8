-- What is told of a colouring of a stream.
use mathlib.Core.Path.{◌≡◌, refl, sym, subst}
use mathlib.Core.Bool.{Bool}
use mathlib.Core.List.{List, []}
use Prim.Native.Nat.{ℕ}
use native.Mathlib.Omega.{arith}
use borrow.Author.Tests.{ne_eqb}
use lib.ListN.{length}
use Rattle.std.specs.Prelude.{Option, Result, Ok, Err}
use Rattle.std.specs.Io.KnownBytes.{Appends}
use Rattle.std.proofs.KnownBytes.{Appends-nil}
use Rattle.std.proofs.lemmas.Bool.{false_from_ne_true}
use Rattle.refusal.specs.Refusal.{first_of, if_accepted}
use Rattle.refusal.proofs.Laws.{refused_leaves}
use Rattle.pixel.specs.Methods.{method_of}
use Rattle.pixel.specs.Strip.{is_whole}
use Rattle.curve_bytes.specs.CurveBytes.{curve_entries}
use Rattle.colouring.specs.Colouring.{coloured_under}
use Rattle.pieces.specs.declared.Failure.{Failure}
use Rattle.pieces.specs.declared.Failure.TheVariants.{Refused, NotRead, NotWritten}
use Rattle.stream_colouring.specs.StreamColour.{StreamCall, StreamColour, opening_number, stream_checks, stream_colour, Leaves}
use Rattle.stream_colouring.specs.Inner.{IsGrade, coloured_by, Writes}
use Rattle.stream_colouring.specs.declared.grade.Grade.{Grade}

-- What is left, by the number of the first checks, whether the stream is whole, and its pixels, coloured.
abbrev left_by : ℕ → Bool → List ℕ → StreamColour
left_by number whole bytes = record { number = first_of (stream_checks number whole); bytes = if_accepted number bytes [] }

-- what is refused before the stream writes no byte
none_left : (number : ℕ) (whole : Bool) (bytes : List ℕ) (written : Option (List ℕ)) → (number ≡ 0 → ⊥)
    → Leaves (left_by number whole bytes) written written (Err (Refused number))
none_left number whole bytes written above =
    (rw (ne_eqb number 0 above) refl, above, subst (Appends written written) (sym (refused_leaves number bytes [] above)) (Appends-nil written))

-- what is not writes the stream's whole pixels, and is refused by 2 where bytes are left over
pixels_left : (grade : Grade) (stream : List ℕ) (old new : Option (List ℕ)) (answer : Result (Unit {0}) Failure) → Writes grade stream old new answer
    → Leaves (left_by 0 (is_whole (length stream)) (coloured_by grade stream)) old new answer
pixels_left grade stream old new (Ok _) (whole, wrote) = (rw whole refl, wrote)
pixels_left grade stream old new (Err (Refused number)) (two, some, wrote) =
    (rw (false_from_ne_true _ some) (sym two), λ zero. omega (arith, two, zero), wrote)
pixels_left grade stream old new (Err NotRead) writes = tt
pixels_left grade stream old new (Err NotWritten) writes = tt

module _ (c : StreamCall) where
  pub opening_refused : (number : ℕ) (written : Option (List ℕ)) → number ≡ opening_number c.curve c.method c.setting → (number ≡ 0 → ⊥)
      → Leaves (stream_colour c) written written (Err (Refused number))
  unfolding stream_colour
  opening_refused number written is above =
      let bytes = coloured_under c.setting (method_of c.method) (curve_entries c.curve) c.stream in
      subst (λ (n : ℕ). Leaves (left_by n (is_whole (length c.stream)) bytes) written written (Err (Refused number))) is
      (none_left number (is_whole (length c.stream)) bytes written above)

  -- the stream, coloured as the call says
  coloured_is : (grade : Grade) → IsGrade c.curve c.method c.setting grade
      → coloured_by grade c.stream ≡ coloured_under c.setting (method_of c.method) (curve_entries c.curve) c.stream
  coloured_is grade is = rw (is.setting, is.method, is.entries) refl

  pub writing_told : (grade : Grade) (old new : Option (List ℕ)) (answer : Result (Unit {0}) Failure) → 0 ≡ opening_number c.curve c.method c.setting
      → IsGrade c.curve c.method c.setting grade → Writes grade c.stream old new answer → Leaves (stream_colour c) old new answer
  unfolding stream_colour
  writing_told grade old new answer ok is writes =
      let whole = is_whole (length c.stream) in
      subst (λ (n : ℕ). Leaves (left_by n whole (coloured_under c.setting (method_of c.method) (curve_entries c.curve) c.stream)) old new answer) ok
      (subst (λ (bytes : List ℕ). Leaves (left_by 0 whole bytes) old new answer) (coloured_is grade is)
      (pixels_left grade c.stream old new answer writes))
