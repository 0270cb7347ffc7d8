-- The two methods as source 004 prints them, in exact fractions (sections 2.1 and 2.2).
-- The paper's l, f(l) and p are an intensity and a target from 0 to 3, and a sample from 0 to 1.
use Rattle.std.specs.Prelude.{◌≡◌, cond, ℕ, ◌+◌, ◌<◌, ◌≤◌}
use Rattle.rounding.specs.Near.{NearestHalfUp, NearestHalfDown}
use Rattle.rounding.specs.Fraction.{Fraction, whole, ◌over◌, ◌⊖◌, ◌⊗◌, ◌⊘◌, ◌≼ᵇ◌, ◌≼◌, nearest}
use Rattle.pixel.specs.Move.{Channel, sample, InRange, intensity, moved}
use Rattle.pixel.specs.declared.Pixel.{Pixel}
use Rattle.pixel.specs.declared.Method.{Method}
use Rattle.pixel.specs.declared.Method.TheVariants.{NaikMurthy, YangLee}

-- Each case of the paper gives the new sample as x, counted up from black, or as 1 − x, counted down from white.
pub data Exact : Type 0 where
  up down : Fraction → Exact

-- 2.1. Case (i), α(l) ≤ 1: p' = α(l) p, where α(l) = f(l) / l.
-- Case (ii), α(l) > 1: p' = 1 − ᾱ(l)(1 − p), where ᾱ(l) = [3 − f(l)] / (3 − l).
unfoldable pub paper₁ : Fraction → Fraction → Fraction → Exact
paper₁ l f p =
    let α = f ⊘ l in
    let ᾱ = (whole 3 ⊖ f) ⊘ (whole 3 ⊖ l) in
    cond (α ≼ᵇ whole 1) (up (α ⊗ p)) (down (ᾱ ⊗ (whole 1 ⊖ p)))

-- 2.2. Case (I), l ≤ 1, with p̃ = p / l: (I-i), f(l) ≤ 1: p'' = f(l) p̃. (I-ii), f(l) > 1: p'' = 1 − [3 − f(l)](1 − p̃) / 2.
unfoldable pub paper_i : Fraction → Fraction → Fraction → Exact
paper_i l f p =
    let p̃ = p ⊘ l in
    cond (f ≼ᵇ whole 1) (up (f ⊗ p̃)) (down ((whole 3 ⊖ f) ⊗ (whole 1 ⊖ p̃) ⊘ whole 2))

-- Case (III), l > 2, with q = 1 − p, q̃ = q / (3 − l), p̃ = 1 − q̃: (III-i), f(l) ≤ 2: p'' = f(l) p̃ / 2.
-- (III-ii), f(l) > 2: p'' = 1 − [3 − f(l)](1 − p̃).
unfoldable pub paper_iii : Fraction → Fraction → Fraction → Exact
paper_iii l f p =
    let q = whole 1 ⊖ p in
    let q̃ = q ⊘ (whole 3 ⊖ l) in
    let p̃ = whole 1 ⊖ q̃ in
    cond (f ≼ᵇ whole 2) (up (f ⊗ p̃ ⊘ whole 2)) (down ((whole 3 ⊖ f) ⊗ (whole 1 ⊖ p̃)))

-- Case (II), 1 < l ≤ 2: Naik and Murthy's method.
unfoldable pub paper₂ : Fraction → Fraction → Fraction → Exact
paper₂ l f p = cond (l ≼ᵇ whole 1) (paper_i l f p) (cond (l ≼ᵇ whole 2) (paper₁ l f p) (paper_iii l f p))

-- By the method.
abbrev pub paper_by : Method → Fraction → Fraction → Fraction → Exact
paper_by NaikMurthy = paper₁
paper_by YangLee = paper₂

-- 2.1: "we set that p' = 1 if l = 3, and p' = 0 if l = 0".
unfoldable pub paper : Method → Fraction → Fraction → Fraction → Exact
paper m l f p = cond (l ≼ᵇ whole 0) (up (whole 0)) (cond (whole 3 ≼ᵇ l) (up (whole 1)) (paper_by m l f p))

-- The paper's new sample for a channel of a pixel that is moved to the target f: at l = s/255, f(l) = f/255 and, for its p, c/255.
abbrev pub exact_sample : Method → Pixel → ℕ → Channel → Exact
exact_sample m p f a = paper m (intensity p over 255) (f over 255) (sample p a over 255)

-- n is the exact sample in code values, rounded once: near(255 x), or 255 − near(255 x).
abbrev pub Rounds : ℕ → Exact → Type 0
Rounds n (up x) = n ≡ nearest (whole 255 ⊗ x)
Rounds n (down x) = n + nearest (whole 255 ⊗ x) ≡ 255

-- Claim: each sample of a moved pixel is the paper's, rounded once.
-- Proved: proofs/Paper.antt, `moves_round_the_paper`.
abbrev pub MovesRoundThePaper : Type 0
MovesRoundThePaper =
    (m : Method) (p : Pixel) (f : ℕ) (a : Channel) → InRange p → f ≤ 765
    → Rounds (sample (moved m p f) a) (exact_sample m p f a)

-- The exact sample in code values: 255 x, or 255 (1 − x).
abbrev pub code_value : Exact → Fraction
code_value (up x) = whole 255 ⊗ x
code_value (down x) = whole 255 ⊗ (whole 1 ⊖ x)

-- n is at most half a step from the exact sample. Halves go up, so it is less than half a step below; counted down from white they go
-- down, and it is less than half a step above.
abbrev pub WithinHalf : ℕ → Exact → Type 0
WithinHalf n (up x) = NearestHalfUp n (code_value (up x)).num (code_value (up x)).den
WithinHalf n (down x) = NearestHalfDown n (code_value (down x)).num (code_value (down x)).den

-- Each sample of q, written for p with the target f, is at most half a step from the exact one.
abbrev pub SamplesWithinHalf : Method → ℕ → Pixel → Pixel → Type 0
SamplesWithinHalf m f p q = (a : Channel) → WithinHalf (sample q a) (exact_sample m p f a)

-- Claim: each sample of a moved pixel is at most half a step from the exact one. Proved: proofs/Paper.antt, `moves_are_within_half`.
abbrev pub MovesAreWithinHalf : Type 0
MovesAreWithinHalf = (m : Method) (p : Pixel) (f : ℕ) → InRange p → f ≤ 765 → SamplesWithinHalf m f p (moved m p f)

-- The exact sample lies from 0 to 1: no channel leaves the cube, and 1 − x is not cut off at 0.
abbrev pub InCube : Exact → Type 0
InCube (up x) = x ≼ whole 1
InCube (down x) = x ≼ whole 1

-- Claim: every exact sample lies from 0 to 1. Proved: proofs/Paper.antt, `paper_stays_in_the_cube`.
abbrev pub PaperStaysInTheCube : Type 0
PaperStaysInTheCube =
    (m : Method) (p : Pixel) (f : ℕ) (a : Channel) → InRange p → f ≤ 765
    → InCube (exact_sample m p f a)

-- The formulas above are exact: none of their divisors is 0, and none of their other subtractions is cut off at 0.
pub record NothingCutOff (l f p : Fraction) : Type 0 where
  -- the divisors l and 3 − l
  pub not_black : 0 < l.num
  pub not_white : 0 < (whole 3 ⊖ l).num
  -- 3 − l, 3 − f(l) and 1 − p
  pub intensity_fits : l ≼ whole 3
  pub target_fits : f ≼ whole 3
  pub sample_fits : p ≼ whole 1
  -- 1 − p̃ in case (I); 1 − q̃ in case (III), and from that p̃ follows 1 − p̃
  pub case_i : p ⊘ l ≼ whole 1
  pub case_iii : (whole 1 ⊖ p) ⊘ (whole 3 ⊖ l) ≼ whole 1
  pub case_iii_ii : whole 1 ⊖ (whole 1 ⊖ p) ⊘ (whole 3 ⊖ l) ≼ whole 1

-- Claim: the formulas are exact for every pixel that is neither black nor white. Proved: proofs/Paper.antt, `formulas_are_exact`.
abbrev pub FormulasAreExact : Type 0
FormulasAreExact =
    (p : Pixel) (f : ℕ) (a : Channel) → InRange p → f ≤ 765 → 0 < intensity p → intensity p < 765
    → NothingCutOff (intensity p over 255) (f over 255) (sample p a over 255)
