-- What the host's calls hand back and leave in the runs lent to them (document 01, "The panel's host", "Who can cause which refusal").
use Rattle.std.specs.Prelude.{Bool, not, List, [], ◌∷◌, ℕ, eqb, length}
use Rattle.refusal.specs.Refusal.{Check, ◌refuses◌, first_of, if_accepted}
use Rattle.pixel.specs.Methods.{is_method, method_of}
use Rattle.pixel.specs.Strip.{is_whole}
use Rattle.curve.specs.Choices.{is_choice}
use Rattle.curve.specs.Curve.{curve_of}
use Rattle.strip_curve.specs.OneStrip.{strip_checks_of}
use Rattle.curve_bytes.specs.CurveBytes.{curve_length, curve_bytes, curve_entries, keeps_curve_rule}
use Rattle.colouring.specs.Colouring.{coloured_strip}

-- What a call leaves: the number that it hands back, and what the run lent for writing then holds.
pub record Outcome : Type 0 where
  pub number : ℕ
  pub bytes : List ℕ

-- An accepted call writes these bytes. A refused one: "destination and curve bytes are not touched", the run holds what it held before.
abbrev pub outcome_of : ℕ → List ℕ → List ℕ → Outcome
outcome_of number written before = record { number = number; bytes = if_accepted number written before }

-- What the curve call brings: a strip, a choice, and what the run for the curve holds.
pub record CurveCall : Type 0 where
  pub strip : List ℕ
  pub choice : ℕ
  pub curve : List ℕ

-- Host curve 4, 10, 2, 5, 3. 4: the curve choice is not 1 or 2. 10: a curve's bytes are not 1,532 long. Then what the strip itself can be
-- refused for: 2, 5, 3 (strip_curve/specs/OneStrip.antt).
abbrev pub curve_checks : (known sized : Bool) (strip : List Check) → List Check
curve_checks known sized strip = not known refuses 4 ∷ not sized refuses 10 ∷ strip

-- "One call takes a strip and a choice and writes the curve of that strip taken as a whole shot": the book's curve of this one strip.
unfoldable pub curve_outcome : CurveCall → Outcome
curve_outcome c =
    outcome_of
    (first_of
    (curve_checks (is_choice c.choice) (eqb (length c.curve) curve_length) (strip_checks_of (length c.strip))))
    (curve_bytes (curve_of c.choice (c.strip ∷ [])))
    c.curve

-- What the colour call brings: a curve, a method, a source, and what the destination holds.
pub record ColourCall : Type 0 where
  pub curve : List ℕ
  pub method : ℕ
  pub source : List ℕ
  pub destination : List ℕ

-- Host colour 10, 11, 7, 2, 8. 10: a curve's bytes are not 1,532 long. 11: the curve breaks the rule. 7: the method is not 1 or 2. 2: the
-- source's length is not a multiple of 3. 8: destination and source differ in length.
abbrev pub colour_checks : (sized ruled known whole same : Bool) → List Check
colour_checks sized ruled known whole same =
    not sized refuses 10 ∷ not ruled refuses 11 ∷ not known refuses 7 ∷ not whole refuses 2 ∷ not same refuses 8 ∷ []

-- "The other takes a curve, a method, a source and a destination and colours."
unfoldable pub colour_outcome : ColourCall → Outcome
colour_outcome c =
    outcome_of
    (first_of
    (colour_checks (eqb (length c.curve) curve_length) (keeps_curve_rule (curve_entries c.curve)) (is_method c.method)
    (is_whole (length c.source)) (eqb (length c.destination) (length c.source))))
    (coloured_strip (method_of c.method) (curve_entries c.curve) c.source)
    c.destination
