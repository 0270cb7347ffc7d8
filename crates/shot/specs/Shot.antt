-- What a shot's calls hand back (document 01, "The ground covered", "Measuring", "Who can cause which refusal").
use Rattle.std.specs.Prelude.{Bool, true, false, not, List, [], ◌∷◌, ℕ, ◌+◌, ◌/◌, ltb, eqb, length, replicate}
use Rattle.refusal.specs.Refusal.{Check, ◌refuses◌, first_of, if_accepted}
use Rattle.pixel.specs.Methods.{is_method, method_of}
use Rattle.pixel.specs.Strip.{is_whole, pixels_of}
use Rattle.dial.specs.Dial.{decoded, refusal_of, setting_of}
use Rattle.dial.specs.declared.Dial.{Dial}
use Rattle.curve.specs.Choices.{is_choice, choice_of}
use Rattle.curve.specs.Curve.{tone_curve}
use Rattle.colouring.specs.Colouring.{coloured_under}
use Rattle.measuring.specs.Histogram.{pixel_limit, with_pixels, cumulative}
use Rattle.shot.specs.declared.Shot.{Shot}
use Rattle.shot.specs.declared.Answer.{Answer}

-- A SHOT is opened empty: all counts are zero. (So is the place of its curve, which nothing reads before it is fixed.)
unfoldable pub opened : Shot
opened = record { counts = replicate 766 0; pixels = 0; fixed = false; curve = replicate 766 0 }

-- A call's answer: the shot y where it is accepted. A refused measure or fix hands back the shot x unchanged.
abbrev pub answered : ℕ → Shot → Shot → Answer
answered number y x = record { shot = if_accepted number y x; number = number }

-- Measure 1, 2, 3. 1: a shot already fixed. 2: the length is not a multiple of 3. 3: the pixels would exceed the limit.
abbrev pub measure_checks : (fixed whole over : Bool) → List Check
measure_checks fixed whole over = fixed refuses 1 ∷ not whole refuses 2 ∷ over refuses 3 ∷ []

-- Each accepted strip adds its pixels to the counts and to N.
abbrev pub with_strip : Shot → List ℕ → Shot
with_strip x strip =
    record {
      counts = with_pixels x.counts (pixels_of strip);
      pixels = x.pixels + length strip / 3;
      fixed = x.fixed;
      curve = x.curve;
    }

-- What measuring hands back.
unfoldable pub measured : Shot → List ℕ → Answer
measured x strip =
    answered
    (first_of (measure_checks x.fixed (is_whole (length strip)) (ltb pixel_limit (x.pixels + length strip / 3))))
    (with_strip x strip)
    x

-- Fix 1, 4, 5. 1: a shot already fixed. 4: the curve choice is not 1 or 2. 5: no pixel has been measured.
abbrev pub fix_checks : (fixed known empty : Bool) → List Check
fix_checks fixed known empty = fixed refuses 1 ∷ not known refuses 4 ∷ empty refuses 5 ∷ []

-- An accepted fixing makes the curve of the choice, from N and the cumulative counts.
abbrev pub with_curve : Shot → ℕ → Shot
with_curve x choice =
    record {
      counts = x.counts;
      pixels = x.pixels;
      fixed = true;
      curve = tone_curve (choice_of choice) x.pixels (cumulative x.counts);
    }

-- What fixing hands back.
unfoldable pub fixed_with : Shot → ℕ → Answer
fixed_with x choice =
    answered (first_of (fix_checks x.fixed (is_choice choice) (eqb x.pixels 0))) (with_curve x choice) x

-- What a colouring brings besides the shot: the method's number, the dial as the panel sends it, and the runs.
pub record ColourRequest : Type 0 where
  pub method : ℕ
  pub dial : Dial
  pub source : List ℕ
  pub destination : List ℕ

-- What a call leaves: what it hands back, and what the lent destination then holds.
pub record Outcome : Type 0 where
  pub answer : Answer
  pub bytes : List ℕ

-- Colour 6, 7, 2, 8, then 17 or 18. 6: a shot not fixed. 7: the method is not 1 or 2. 2: the source's length is not a multiple of 3. 8:
-- destination and source differ in length. 17: the amount is not a stop. 18: the held value is not a whole intensity.
abbrev pub colour_checks : (fixed known whole same stop held : Bool) → List Check
colour_checks fixed known whole same stop held =
    not fixed refuses 6
    ∷ not known refuses 7
    ∷ not whole refuses 2
    ∷ not same refuses 8
    ∷ not stop refuses 17
    ∷ not held refuses 18
    ∷ []

-- What a colouring with this number leaves: an accepted one writes every source pixel, as the dial's setting has it, by the curve's entry
-- for its intensity; a refused one touches no byte. Both hand back the shot as it is.
abbrev pub colouring_outcome : ℕ → Shot → ColourRequest → Outcome
colouring_outcome number x q =
    record {
      answer = record { shot = x; number = number };
      bytes =
          if_accepted number (coloured_under (setting_of (decoded q.dial)) (method_of q.method) x.curve q.source) q.destination;
    }

-- The checks of a colouring.
abbrev pub colour_checks_of : Shot → ColourRequest → List Check
colour_checks_of x q =
    colour_checks x.fixed (is_method q.method) (is_whole (length q.source)) (eqb (length q.destination) (length q.source))
    (not (eqb (refusal_of (decoded q.dial)) 17)) (not (eqb (refusal_of (decoded q.dial)) 18))

-- What colouring leaves.
unfoldable pub coloured : Shot → ColourRequest → Outcome
coloured x q = colouring_outcome (first_of (colour_checks_of x q)) x q
