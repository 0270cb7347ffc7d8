-- Counting the black and the white pixels of a strip, and those before the first white one, over arrays of three bytes.
use Rattle.std.proofs.Common.{◌≡◌, Bool, true, false, cond, not, List, [], ◌∷◌, ℕ, ◌+◌, ◌/◌, eqb, length, refl, sym, ap, ◌∙◌}
use Rattle.std.proofs.lemmas.List.Recursion.{is_sum_by}
use Rattle.std.specs.List.{count_by, prefix_len, take_while}
use Rattle.std.specs.Simd.{first_chunks}
use Rattle.std.proofs.lemmas.List.Folds.{length-prefix_len}
use Rattle.pixel.specs.Move.{intensity}
use Rattle.pixel.specs.Strip.{pixels_of, pixel_from}
use Rattle.measuring.specs.Histogram.{count_of}
use Rattle.measuring.specs.Inner.{arrays_pixels}
use Rattle.measuring.proofs.Counting.{pixels_of_threes}
use Rattle.frames.specs.Inner.{before_white, tones_of}

counted : (arrays : List (List ℕ)) (s : ℕ) → count_by (λ p. eqb (intensity (pixel_from p 0)) s) arrays ≡ count_of (arrays_pixels arrays) s
counted arrays s =
    sym
    (is_sum_by (λ arrays. count_of (arrays_pixels arrays) s) (λ p. cond (eqb (intensity (pixel_from p 0)) s) 1 0) refl (λ _ _. refl) arrays)

-- a white pixel ends the count, and any other is counted
one_more : (white : Bool) (m n : ℕ) → m ≡ n → cond (not white) (1 + m) 0 ≡ cond white 0 (1 + n)
one_more true m n is = refl
one_more false m n is = ap (λ (k : ℕ). 1 + k) is

before : (arrays : List (List ℕ)) → prefix_len (λ p. not (eqb (intensity (pixel_from p 0)) 765)) arrays ≡ before_white (arrays_pixels arrays)
before [] = refl
before (p ∷ arrays) = one_more (eqb (intensity (pixel_from p 0)) 765) _ _ (before arrays)

-- what the counts of the arrays of a strip are
pub tones_counted : (strip : List ℕ) (arrays : List (List ℕ)) → arrays ≡ first_chunks 3 (length strip / 3) strip
    → (black white first : ℕ)
    → black ≡ count_by (λ p. eqb (intensity (pixel_from p 0)) 0) arrays
    → white ≡ count_by (λ p. eqb (intensity (pixel_from p 0)) 765) arrays
    → first ≡ length (take_while (λ p. not (eqb (intensity (pixel_from p 0)) 765)) arrays)
    → record { black = black; white = white; before = first } ≡ tones_of (pixels_of strip)
tones_counted strip arrays threes black white first is_black is_white is_first =
    let pixels : arrays_pixels arrays ≡ pixels_of strip = ap arrays_pixels threes ∙ pixels_of_threes (length strip / 3) strip refl in
    let blacks = is_black ∙ counted arrays 0 in
    let whites = is_white ∙ counted arrays 765 in
    let firsts = is_first ∙ length-prefix_len (λ p. not (eqb (intensity (pixel_from p 0)) 765)) arrays ∙ before arrays in
    (λ j. record { black = blacks j; white = whites j; before = firsts j }) ∙ ap tones_of pixels
