-- Laws of a strip taken as a whole shot.
use mathlib.Core.Path.{◌≡◌, refl, sym, ap, subst, ◌∙◌}
use mathlib.Core.Bool.{true}
use mathlib.Core.List.{List, [], ◌∷◌, append-nil}
use Prim.Native.Nat.{ℕ, ◌/◌, ◌≤◌, ◌<◌}
use native.Mathlib.Omega.{arith}
use borrow.Author.Tests.{not-false, ltb-false, eqb-false, le-ltb, ne_eqb}
use lib.ListN.{length, replicate, get_or-replicate}
use Rattle.std.proofs.Common.{Result, Ok, Err}
use Rattle.refusal.specs.Numbers.{refusal_number, number_in}
use Rattle.refusal.specs.declared.Refusal.{Refusal}
use Rattle.refusal.proofs.Laws.{none_applies, accepted_leaves}
use Rattle.refusal.proofs.Numbers.{refusals_are_numbered}
use Rattle.tables.specs.Table.{at, ◌among◌}
use Rattle.pixel.specs.Strip.{is_whole, pixels_of, Bytes}
use Rattle.pixel.specs.declared.Pixel.{Pixel}
use Rattle.pixel.proofs.Strips.{whole_means, length_pixels, pixels_in_range, intensity_in_range}
use Rattle.measuring.specs.Histogram.{pixel_limit, pixels_in, count_of, with_pixels, cumulative, Counted}
use Rattle.measuring.specs.Inner.{CountsFit}
use Rattle.measuring.proofs.Counting.{with_at}
use Rattle.curve.specs.Choices.{choice_number}
use Rattle.curve.specs.Curve.{tone_curve, curve_of, IsToneCurve}
use Rattle.curve.specs.Inner.{HistogramOf}
use Rattle.curve.specs.declared.Choice.{Choice}
use Rattle.curve.proofs.Histogram.{tally_is_histogram}
use Rattle.curve.proofs.Numbers.{choices_are_numbered}
use Rattle.curve.proofs.Strips.{curve_of_tally, curve_of_shape}
use Rattle.strip_curve.specs.OneStrip.{StripCurve, strip_checks_of, strip_number, strip_answer, strip_curve}

-- What is handed back, from what the checks gave.
module _ (choice : Choice) (strip : List ℕ) where
  pub answer_refused : (refusal : Refusal) → refusal_number refusal ≡ strip_number strip → strip_answer (Err refusal) ≡ strip_curve choice strip
  unfolding strip_curve
  answer_refused refusal is =
      rw (ne_eqb (strip_number strip) 0 (λ z. omega (arith, is, z, refusals_are_numbered.above refusal)), is)

  pub answer_accepted : (curve : List ℕ) → 0 ≡ strip_number strip → curve ≡ curve_of (choice_number choice) (strip ∷ [])
      → strip_answer (Ok curve) ≡ strip_curve choice strip
  unfolding strip_curve
  answer_accepted curve zero same = rw (← zero, same)

-- the number of what was handed back
answer_number : (made : Result (List ℕ) Refusal) → number_in made ≡ (strip_answer made).number
answer_number (Ok curve) = refl
answer_number (Err refusal) = refl

-- For callers: what was handed back.
module _ (choice : Choice) (strip : List ℕ) (made : Result (List ℕ) Refusal) (is : strip_answer made ≡ strip_curve choice strip) where
  pub made_number : number_in made ≡ strip_number strip
  unfolding strip_curve
  made_number = answer_number made ∙ ap (λ (m : StripCurve). m.number) is

  pub made_curve : (curve : List ℕ) → made ≡ Ok curve → curve ≡ curve_of (choice_number choice) (strip ∷ [])
  unfolding strip_curve
  made_curve curve ok =
      let zero : strip_number strip ≡ 0 = sym made_number ∙ ap number_in ok in
      ap (λ (m : Result (List ℕ) Refusal). (strip_answer m).curve) (sym ok)
      ∙ ap (λ (m : StripCurve). m.curve) is
      ∙ accepted_leaves (strip_number strip) _ _ zero

-- what an accepted strip has passed, by its length
pub record StripAccepted (strip : ℕ) : Type 0 where
  pub whole : is_whole strip ≡ true
  pub some : 0 < strip
  pub limit : strip / 3 ≤ pixel_limit

pub strip_passed : (strip : List ℕ) → strip_number strip ≡ 0 → StripAccepted (length strip)
strip_passed strip e =
    let (whole, (some, (limit, _))) = none_applies (strip_checks_of (length strip)) refl e in
    record { whole = not-false _ whole; some = omega (arith, eqb-false (length strip) 0 some); limit = ltb-false _ _ limit }

pub strip_accepted : (strip : List ℕ) → StripAccepted (length strip) → strip_number strip ≡ 0
strip_accepted strip ok =
    rw (
      ok.whole,
      ne_eqb (length strip) 0 (λ e. omega (arith, ok.some)),
      le-ltb pixel_limit (length strip / 3) ok.limit,
    ) refl

-- An accepted strip.
module _ (strip : List ℕ) (ok : StripAccepted (length strip)) where
  -- the pixels of this one strip
  only : pixels_in (strip ∷ []) ≡ pixels_of strip
  only = append-nil (pixels_of strip)

  pixels_are : length strip / 3 ≡ length (pixels_in (strip ∷ []))
  pixels_are = sym (ap length only ∙ length_pixels strip)

  some_pixels : 0 < length (pixels_in (strip ∷ []))
  some_pixels = omega (arith, pixels_are, whole_means (length strip) ok.whole, ok.some)

  counted : Bytes strip → Counted (pixels_in (strip ∷ []))
  counted bytes p m =
      intensity_in_range p (pixels_in_range strip bytes p (subst (λ (ps : List Pixel). p among ps) only m))

  -- its curve is a tone curve
  pub strip_shape : Bytes strip → (choice : ℕ) → IsToneCurve (curve_of choice (strip ∷ []))
  strip_shape bytes choice = curve_of_shape choice (strip ∷ []) some_pixels (counted bytes)

  -- empty counts can take it
  pub zeros_fit : CountsFit (replicate 766 0) strip
  zeros_fit = record { whole = ok.whole; fit = λ s l. omega (arith, get_or-replicate {A = ℕ} 766 s 0 0 (omega arith), ok.limit) }

  -- and with its pixels added
  module _ (counts : List ℕ) (are : counts ≡ with_pixels (replicate 766 0) (pixels_of strip)) where
    tally : (s : ℕ) → s ≤ 765 → at counts s ≡ count_of (pixels_in (strip ∷ [])) s
    tally s l =
        omega (
          arith,
          with_at (replicate 766 0) (pixels_of strip) are s l,
          get_or-replicate {A = ℕ} 766 s 0 0 (omega arith),
          ap (λ (ps : List Pixel). count_of ps s) only,
        )

    -- are their histogram
    pub strip_histogram : Bytes strip → HistogramOf (length strip / 3) counts
    strip_histogram bytes =
        subst (λ (n : ℕ). HistogramOf n counts) (sym pixels_are)
        (tally_is_histogram counts (pixels_in (strip ∷ [])) tally (counted bytes) some_pixels (omega (arith, pixels_are, ok.limit)))

    -- from which its curve is made
    pub strip_made : (choice : Choice) → tone_curve choice (length strip / 3) (cumulative counts) ≡ curve_of (choice_number choice) (strip ∷ [])
    strip_made choice =
        ap (λ (n : ℕ). tone_curve choice n (cumulative counts)) pixels_are
        ∙ ap (λ (c : Choice). tone_curve c (length (pixels_in (strip ∷ []))) (cumulative counts)) (sym (choices_are_numbered.back choice))
        ∙ curve_of_tally (choice_number choice) (strip ∷ []) counts tally
