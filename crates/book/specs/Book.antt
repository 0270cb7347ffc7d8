-- Document 01's book ("The book and the whole run"): fed each call with its arguments other than the shot, and nothing that the
-- program keeps or answers.
use Rattle.std.specs.Prelude.{Bool, true, false, not, List, [], ◌∷◌, ◌++◌, ℕ, ◌+◌, ltb, eqb, length}
use Rattle.std.proofs.Math.Option.{Option, none, some}
use Rattle.refusal.specs.Refusal.{Check, ◌refuses◌, first_of, if_accepted}
use Rattle.pixel.specs.Methods.{is_method}
use Rattle.pixel.specs.Strip.{is_whole, pixels_of}
use Rattle.measuring.specs.Histogram.{pixel_limit, pixels_in}
use Rattle.curve.specs.Choices.{is_choice}
use Rattle.curve.specs.Curve.{curve_of}
use Rattle.shot.specs.Shot.{ColourRequest}
use Rattle.book.specs.Reading.{amount_is_stop, value_is_intensity}

-- A call, with what it brings besides the shot.
pub data Call : Type 0 where
  opening : Call
  measuring : (strip : List ℕ) → Call
  fixing : (choice : ℕ) → Call
  colouring : (request : ColourRequest) → Call

-- The book holds the strips measured and, once fixed, a curve.
pub record Book : Type 0 where
  pub strips : List (List ℕ)
  pub curve : Option (List ℕ)

-- No strip and no curve.
abbrev pub empty_book : Book
empty_book = record { strips = []; curve = none }

-- Whether there is a curve.
abbrev pub has_curve : Option (List ℕ) → Bool
has_curve none = false
has_curve (some curve) = true

-- The refusals of each call.
abbrev pub book_checks : Book → Call → List Check
book_checks b opening = []
-- "refused 1 if there is a curve, then 2 for the length, then 3 if the pixels held and the strip's together pass the limit"
book_checks b (measuring strip) =
    has_curve b.curve refuses 1
    ∷ not (is_whole (length strip)) refuses 2
    ∷ ltb pixel_limit (length (pixels_in b.strips) + length (pixels_of strip)) refuses 3
    ∷ []
-- "refused 1 if there is a curve, then 4 for the choice, then 5 if the book holds no pixel"
book_checks b (fixing choice) =
    has_curve b.curve refuses 1 ∷ not (is_choice choice) refuses 4 ∷ eqb (length (pixels_in b.strips)) 0 refuses 5 ∷ []
-- "refused 6 if there is no curve, then 7, 2, 8"; "amount not a stop, 17; held value not such a whole number, 18; either after all of
-- colouring's other checks"
book_checks b (colouring q) =
    not (has_curve b.curve) refuses 6
    ∷ not (is_method q.method) refuses 7
    ∷ not (is_whole (length q.source)) refuses 2
    ∷ not (eqb (length q.destination) (length q.source)) refuses 8
    ∷ not (amount_is_stop q.dial) refuses 17
    ∷ not (value_is_intensity q.dial) refuses 18
    ∷ []

-- The answer that the book has for a call: 0, or the number of the first refusal that applies.
abbrev pub expected_answer : Book → Call → ℕ
expected_answer b c = first_of (book_checks b c)

-- The book after an accepted call.
abbrev pub entered : Book → Call → Book
-- "the book then holds no strip and no curve"
entered b opening = empty_book
-- "the strip joins those held"
entered b (measuring strip) = record { strips = b.strips ++ (strip ∷ []); curve = b.curve }
-- "the curve is made as above, with N and H counted over all pixels held"
entered b (fixing choice) = record { strips = b.strips; curve = some (curve_of choice b.strips) }
-- "the book stays as it is"
entered b (colouring q) = b

-- "A refused call leaves the book as it is."
abbrev pub book_step : Book → Call → Book
book_step b c = if_accepted (expected_answer b c) (entered b c) b
