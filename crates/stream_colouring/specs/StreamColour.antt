-- Colouring a stream of pixels of any length by a curve that is handed in.
use Rattle.std.specs.Prelude.{◌≡◌, Bool, not, List, [], ◌∷◌, ℕ, ltb, eqb, length, Option, Result, Ok, Err}
use Rattle.std.specs.Io.KnownBytes.{Appends}
use Rattle.refusal.specs.Refusal.{Check, ◌refuses◌, first_of, if_accepted}
use Rattle.pixel.specs.Methods.{is_method, method_of}
use Rattle.pixel.specs.Strip.{is_whole}
use Rattle.settings.specs.declared.Setting.{Setting}
use Rattle.settings.specs.declared.Setting.TheVariants.{Off, Mix, Hold}
use Rattle.curve_bytes.specs.CurveBytes.{curve_length, curve_entries, keeps_curve_rule}
use Rattle.colouring.specs.Colouring.{coloured_under}
use Rattle.pieces.specs.declared.Failure.{Failure}
use Rattle.pieces.specs.declared.Failure.TheVariants.{Refused, NotRead, NotWritten}

-- What a colouring of a stream brings: the curve's bytes, the method's number, the dial's command in whole numbers, and the stream.
pub record StreamCall : Type 0 where
  pub curve : List ℕ
  pub method : ℕ
  pub setting : Setting
  pub stream : List ℕ

-- 17: the amount is not a stop, k of 256 with k from 0 to 256. 18: the held value is not an intensity from 0 to 765.
abbrev pub setting_checks : Setting → List Check
setting_checks Off = []
setting_checks (Mix k) = ltb 256 k refuses 17 ∷ []
setting_checks (Hold v) = ltb 765 v refuses 18 ∷ []

-- Stream colour 10, 11, 7, then 17 or 18, before any byte. 10: a curve's bytes are not 1,532 long. 11: the curve breaks the rule. 7: the method
-- is not 1 or 2.
abbrev pub opening_checks : (sized ruled known : Bool) → Setting → List Check
opening_checks sized ruled known setting = not sized refuses 10 ∷ not ruled refuses 11 ∷ not known refuses 7 ∷ setting_checks setting

-- The number of the first of these that applies, or 0.
abbrev pub opening_number : List ℕ → ℕ → Setting → ℕ
opening_number curve method setting =
    first_of (opening_checks (eqb (length curve) curve_length) (keeps_curve_rule (curve_entries curve)) (is_method method) setting)

-- Then 2, at the stream's end: its length is not a multiple of 3.
abbrev pub stream_checks : (opening : ℕ) (whole : Bool) → List Check
stream_checks opening whole = not (eqb opening 0) refuses opening ∷ not whole refuses 2 ∷ []

-- What the colouring leaves: a number, and the bytes that it writes.
pub record StreamColour : Type 0 where
  pub number : ℕ
  pub bytes : List ℕ

-- It writes every whole pixel of the stream, coloured, also where it is then refused by 2; none where it is refused before.
unfoldable pub stream_colour : StreamCall → StreamColour
stream_colour c =
    record {
      number = first_of (stream_checks (opening_number c.curve c.method c.setting) (is_whole (length c.stream)));
      bytes = if_accepted (opening_number c.curve c.method c.setting) (coloured_under c.setting (method_of c.method) (curve_entries c.curve) c.stream) [];
    }

-- An answer tells the number, and the writer has the bytes after those that it had before; one that a read or a write failed says nothing.
abbrev pub Leaves : StreamColour → Option (List ℕ) → Option (List ℕ) → Result (Unit {0}) Failure → Type 0
Leaves left old new (Ok _) = (left.number ≡ 0) × Appends old new left.bytes
Leaves left old new (Err (Refused number)) = (left.number ≡ number) × (number ≡ 0 → ⊥) × Appends old new left.bytes
Leaves left old new (Err NotRead) = Unit {0}
Leaves left old new (Err NotWritten) = Unit {0}
