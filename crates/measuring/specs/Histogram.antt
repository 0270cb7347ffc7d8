-- Counting pixels by their intensities (document 01, "Measuring"; source 004, 3.1).
use Rattle.std.specs.Prelude.{◌≡◌, Bool, cond, List, [], ◌∷◌, ◌++◌, ℕ, zero, suc, ◌+◌, ◌≤◌, leb, eqb, length}
use Rattle.tables.specs.Table.{tabulate, at, ◌among◌}
use Rattle.pixel.specs.Move.{intensity}
use Rattle.pixel.specs.Strip.{pixels_of}
use Rattle.pixel.specs.declared.Pixel.{Pixel}

-- "At most 16,777,216 pixels to a shot."
abbrev pub pixel_limit : ℕ
pixel_limit = 16777216

-- All pixels of some strips.
abbrev pub pixels_in : List (List ℕ) → List Pixel
pixels_in [] = []
pixels_in (strip ∷ strips) = pixels_of strip ++ pixels_in strips

-- How many of the pixels have an intensity that passes the test.
abbrev pub count_where : (ℕ → Bool) → List Pixel → ℕ
count_where test [] = 0
count_where test (p ∷ ps) = cond (test (intensity p)) 1 0 + count_where test ps

-- The histogram of the pixels: how many of them have the intensity s.
abbrev pub count_of : List Pixel → ℕ → ℕ
count_of ps s = count_where (λ i. eqb i s) ps

-- H(s): how many of them have an intensity of at most s.
abbrev pub count_up_to : List Pixel → ℕ → ℕ
count_up_to ps s = count_where (λ i. leb i s) ps

-- The tally of 766 counts, one for each intensity, with the pixels added to it.
unfoldable pub with_pixels : List ℕ → List Pixel → List ℕ
with_pixels counts ps = tabulate (λ s. at counts s + count_of ps s) 766

-- The first n counts of a tally added up.
unfoldable pub sum_of_first : List ℕ → ℕ → ℕ
sum_of_first counts zero = 0
sum_of_first counts (suc n) = sum_of_first counts n + at counts n

-- H(s) again, from the tally of the pixels.
abbrev pub cumulative : List ℕ → ℕ → ℕ
cumulative counts s = sum_of_first counts (suc s)

-- Claim: where each count is that of the pixels, both are the same H. Proved: proofs/Cumulative.antt, `tallies_give_h`.
abbrev pub TalliesGiveH : Type 0
TalliesGiveH =
    (counts : List ℕ) (ps : List Pixel) → ((s : ℕ) → s ≤ 765 → at counts s ≡ count_of ps s)
    → (s : ℕ) → s ≤ 765 → cumulative counts s ≡ count_up_to ps s

-- f does not fall from 0 to 765.
abbrev pub NonDecreasing : (ℕ → ℕ) → Type 0
NonDecreasing f = (s t : ℕ) → s ≤ t → t ≤ 765 → f s ≤ f t

-- What every H of N pixels is: it does not fall, and "H(765) = N".
pub record IsCumulative (N : ℕ) (H : ℕ → ℕ) : Type 0 where
  pub never_falls : NonDecreasing H
  pub last : H 765 ≡ N

-- Each pixel's intensity is 0 to 765, as that of three bytes is.
abbrev pub Counted : List Pixel → Type 0
Counted ps = (p : Pixel) → p among ps → intensity p ≤ 765

-- Claim: the H of such pixels is a cumulative histogram of as many. Proved: proofs/Cumulative.antt, `h_is_cumulative`.
abbrev pub HIsCumulative : Type 0
HIsCumulative = (ps : List Pixel) → Counted ps → IsCumulative (length ps) (count_up_to ps)
