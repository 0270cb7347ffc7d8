-- The accuracy of a moved pixel (document 00, demand 3; document 01, "The book and the whole run").
use Rattle.std.specs.Prelude.{◌≡◌, cond, ◌⊎◌, ℕ, ◌+◌, ◌-◌, ◌*◌, ◌<◌, ◌≤◌, leb, eqb}
use Rattle.rounding.specs.Fraction.{Fraction, whole, ◌over◌, AtMostApart}
use Rattle.pixel.specs.Move.{Channel, sample, InRange, intensity, moved}
use Rattle.pixel.specs.declared.Pixel.{Pixel}
use Rattle.pixel.specs.declared.Method.{Method}
use Rattle.pixel.specs.declared.Method.TheVariants.{NaikMurthy, YangLee}

-- The factor for intensity s and entry f in method 1: f / s for f at most s, (765 − f) / t for f above s,
-- with t = 765 − s.
unfoldable pub factor₁ : ℕ → ℕ → Fraction
factor₁ s f = cond (leb f s) (f over s) ((765 - f) over (765 - s))

-- In method 2:
unfoldable pub factor₂ : ℕ → ℕ → Fraction
factor₂ s f =
    let t = 765 - s in
    cond (leb s 255)
    -- s at most 255: f / s for f at most 255, (765 − f) / (2 × s) for f above 255
    (cond (leb f 255) (f over s) ((765 - f) over (2 * s)))
    (cond (leb s 510)
    -- s from 256 to 510: as method 1
    (factor₁ s f)
    -- s above 510: f / (2 × t) for f at most 510, (765 − f) / t for f above 510
    (cond (leb f 510) (f over (2 * t)) ((765 - f) over t)))

-- By the method.
abbrev pub factor_by : Method → ℕ → ℕ → Fraction
factor_by NaikMurthy = factor₁
factor_by YangLee = factor₂

-- The factor is 1 at s = 0 and at s = 765.
unfoldable pub factor : Method → ℕ → ℕ → Fraction
factor m s f = cond (eqb s 0) (1 over 1) (cond (eqb s 765) (1 over 1) (factor_by m s f))

-- How far a written pixel may be from where it should be, and two of them out of order.
pub record Tolerance : Type 0 where
  -- the difference of two channels: less than so many full steps
  pub steps : ℕ
  -- the intensity, the demand's "sum": at most so far
  pub sum : Fraction
  -- of two pixels, the one that was no darker: at most so much below the other
  pub below : ℕ

-- Demand 3's own: "give or take less than a full step", "at most one from the curve's entry", "at most two below the other's".
abbrev pub mission : Tolerance
mission = record { steps = 1; sum = whole 1; below = 2 }

-- x' − y' is less than n steps above, and less than n steps below, (x − y) × k; both sides times k's denominator.
abbrev pub WithinSteps : ℕ → Fraction → ℕ → ℕ → ℕ → ℕ → Type 0
WithinSteps n k x y x' y' =
    (x' * k.den + y * k.num < y' * k.den + x * k.num + n * k.den)
    × (y' * k.den + x * k.num < x' * k.den + y * k.num + n * k.den)

-- The pixel q, written for p, keeps p's differences times the factor k, to less than n steps.
pub record KeepsDifferences (n : ℕ) (k : Fraction) (p q : Pixel) : Type 0 where
  -- the factor is a number
  pub denominator : 0 < k.den
  -- of two channels the one no larger going in comes out no larger
  pub order : (a b : Channel) → sample p a ≤ sample p b → sample q a ≤ sample q b
  -- two channels differ by their input difference times the factor, give or take less than n steps
  pub difference : (a b : Channel) → WithinSteps n k (sample p a) (sample p b) (sample q a) (sample q b)

-- The rules of demand 3 for a pixel p that is written as q, by a tolerance, the factor k and the intensity that q should have.
pub record PixelAccurate (t : Tolerance) (k target : Fraction) (p q : Pixel) : Type 0 where
  -- each sample is 0 to 255
  pub range : InRange q
  -- the intensity is at most so far from the target
  pub sum : AtMostApart t.sum (whole (intensity q)) target
  -- the channels keep their order and, times the factor, their differences
  pub channels : KeepsDifferences t.steps k p q

-- Black and white stay for every target, so the rule on the sum is claimed of them only where the target is their own, 0 or 765.
-- Every tone curve has these ends.
pub record OwnEnds (p : Pixel) (f : ℕ) : Type 0 where
  pub black : intensity p ≡ 0 → f ≡ 0
  pub white : intensity p ≡ 765 → f ≡ 765

-- Claim: every move keeps the rules, to the mission's tolerance. Proved: proofs/Accurate.antt, `moves_are_accurate`.
abbrev pub MovesAreAccurate : Type 0
MovesAreAccurate =
    (m : Method) (p : Pixel) (f : ℕ) → InRange p → f ≤ 765 → OwnEnds p f → PixelAccurate mission (factor m (intensity p) f) (whole f) p (moved m p f)

-- Claim: black and white stay, for every target. Proved: proofs/Accurate.antt, `ends_stay`.
abbrev pub EndsStay : Type 0
EndsStay = (m : Method) (p : Pixel) (f : ℕ) → InRange p → (intensity p ≡ 0) ⊎ (intensity p ≡ 765) → moved m p f ≡ p
