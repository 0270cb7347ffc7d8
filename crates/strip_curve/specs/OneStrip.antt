-- A strip taken as a whole shot (document 01, "The panel's host"): its refusals, and its tone curve.
use Rattle.std.specs.Prelude.{Bool, not, List, [], ◌∷◌, ℕ, ◌/◌, ltb, eqb, length, replicate, Result, Ok, Err}
use Rattle.refusal.specs.Refusal.{Check, ◌refuses◌, first_of, if_accepted}
use Rattle.refusal.specs.Numbers.{refusal_number}
use Rattle.refusal.specs.declared.Refusal.{Refusal}
use Rattle.pixel.specs.Strip.{is_whole}
use Rattle.measuring.specs.Histogram.{pixel_limit}
use Rattle.curve.specs.Choices.{choice_number}
use Rattle.curve.specs.Curve.{curve_of}
use Rattle.curve.specs.declared.Choice.{Choice}

-- What is told of a strip: a number, and a curve.
pub record StripCurve : Type 0 where
  pub number : ℕ
  pub curve : List ℕ

-- What the strip itself can be refused for, in the order of host curve: 2, 5, 3. 2: its length is not a multiple of 3. 5: it is empty.
-- 3: its pixels exceed the limit.
abbrev pub strip_checks : (whole empty over : Bool) → List Check
strip_checks whole empty over = not whole refuses 2 ∷ empty refuses 5 ∷ over refuses 3 ∷ []

-- The same, for a strip of this length.
abbrev pub strip_checks_of : ℕ → List Check
strip_checks_of n = strip_checks (is_whole n) (eqb n 0) (ltb pixel_limit (n / 3))

-- The number for a strip: 0, or that of the first of these that applies.
abbrev pub strip_number : List ℕ → ℕ
strip_number strip = first_of (strip_checks_of (length strip))

-- What the call's answer is as a number and a curve: 0 and the curve, or the refusal's number and zeros.
abbrev pub strip_answer : Result (List ℕ) Refusal → StripCurve
strip_answer (Ok curve) = record { number = 0; curve = curve }
strip_answer (Err refusal) = record { number = refusal_number refusal; curve = replicate 766 0 }

-- What is told of a strip and a choice: the number, and the curve of this one strip; for a refused strip, zeros.
unfoldable pub strip_curve : Choice → List ℕ → StripCurve
strip_curve choice strip =
    record {
      number = strip_number strip;
      curve = if_accepted (strip_number strip) (curve_of (choice_number choice) (strip ∷ [])) (replicate 766 0);
    }
