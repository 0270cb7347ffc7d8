-- The tone curve of a shot (document 01, "Fixing the curve"): N is its number of pixels, and H(s) of them have an intensity of at most s.
use Rattle.std.specs.Prelude.{◌≡◌, cond, List, ℕ, zero, suc, ◌+◌, ◌*◌, ◌≤◌, ◌<◌, eqb, length}
use Rattle.rounding.specs.Near.{near}
use Rattle.tables.specs.Table.{tabulate, at}
use Rattle.targets.specs.Cube.{G}
use Rattle.measuring.specs.Histogram.{pixels_in, count_up_to, NonDecreasing, IsCumulative}
use Rattle.curve.specs.Choices.{choice_of}
use Rattle.curve.specs.Nearest.{nearest_place}
use Rattle.curve.specs.declared.Choice.{Choice}
use Rattle.curve.specs.declared.Choice.TheVariants.{Cube, Equalised}

-- The share of the pixels that the entry for an intensity s is made from, the house's: "wherever the curves used H(s) / N they now use
-- (H(s) + H(s − 1)) / (2 × N)" (document 02, wish 3). It is held as two whole numbers, `share_count below upto` out of `full_count N`,
-- where `below` pixels have a smaller intensity and `upto` have one of at most s: a pixel below counts 2, and one of the intensity itself 1.
-- Source 004 has H(s) / N; specs/Paper.antt says what is left of its equations.
unfoldable pub share_count : ℕ → ℕ → ℕ
share_count below upto = upto + below

-- What all N pixels count, 2 each.
unfoldable pub full_count : ℕ → ℕ
full_count N = 2 * N

-- H(s − 1), with H(−1) = 0.
abbrev pub previous : (ℕ → ℕ) → ℕ → ℕ
previous H zero = 0
previous H (suc s) = H s

-- The share count for the intensity s.
abbrev pub share_at : (ℕ → ℕ) → ℕ → ℕ
share_at H s = share_count (previous H s) (H s)

-- Choice 1, cube (equation 14 with that share), of a share of h in n: the k where the distance between n × G(k) and G(765) × h is least.
-- Of two equal distances the smaller k wins.
unfoldable pub cube_entry : ℕ → ℕ → ℕ
cube_entry n h = nearest_place (λ k. n * G k) 765 (G 765 * h)

-- Choice 2, equalised (equation 5 with that share): 765 × h / n to the nearest whole number, halves up.
unfoldable pub equalised_entry : ℕ → ℕ → ℕ
equalised_entry n h = near (765 * h) n

-- The entry by a choice, before the ends are set.
abbrev pub by_choice : Choice → ℕ → ℕ → ℕ
by_choice Cube = cube_entry
by_choice Equalised = equalised_entry

-- In both, entry 0 is then set to 0 and entry 765 to 765.
unfoldable pub with_ends : (ℕ → ℕ) → ℕ → ℕ
with_ends f s = cond (eqb s 0) 0 (cond (eqb s 765) 765 (f s))

-- The entry for the intensity s.
unfoldable pub entry : Choice → ℕ → (ℕ → ℕ) → ℕ → ℕ
entry choice N H = with_ends (λ s. by_choice choice (full_count N) (share_at H s))

-- The curve: 766 entries, one for each intensity.
unfoldable pub tone_curve : Choice → ℕ → (ℕ → ℕ) → List ℕ
tone_curve choice N H = tabulate (entry choice N H) 766

-- The curve of some strips by a choice's number, "with N and H counted over all pixels held" (document 01, "The book and the whole run").
unfoldable pub curve_of : ℕ → List (List ℕ) → List ℕ
curve_of choice strips = tone_curve (choice_of choice) (length (pixels_in strips)) (count_up_to (pixels_in strips))

-- No entry is above 765.
abbrev pub EntriesInRange : List ℕ → Type 0
EntriesInRange curve = (s : ℕ) → s ≤ 765 → at curve s ≤ 765

-- What every tone curve is: 766 entries, "entry 0 is 0, entry 765 is 765, none exceeds 765 and none is less than the one before"
-- (document 01, "The panel's host").
pub record IsToneCurve (curve : List ℕ) : Type 0 where
  pub size : length curve ≡ 766
  pub black : at curve 0 ≡ 0
  pub white : at curve 765 ≡ 765
  pub range : EntriesInRange curve
  pub never_falls : NonDecreasing (at curve)

-- Claim: a curve made from a cumulative histogram of at least one pixel is such a curve. Proved: proofs/Curve.antt,
-- `curves_are_tone_curves`.
abbrev pub CurvesAreToneCurves : Type 0
CurvesAreToneCurves =
    (choice : Choice) (N : ℕ) (H : ℕ → ℕ) → 0 < N → IsCumulative N H → IsToneCurve (tone_curve choice N H)
