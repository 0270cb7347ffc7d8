-- The paper's formulas in code values: each is 1 / 255 of a product over a divisor.
use mathlib.Core.Path.{◌≡◌, ap, ap₂, subst⁻¹, ◌∙◌}
use Prim.Native.Nat.{ℕ, ◌-◌, ◌*◌, ◌<◌}
use native.Mathlib.Nat.{sub-zero, mul-one, one-mul, mul_assoc, mul_comm, mul_left_comm}
use native.Mathlib.Omega.{arith}
use Rattle.rounding.specs.Fraction.{Fraction, whole, ◌over◌, ◌⊖◌, ◌⊗◌, ◌⊘◌, ◌≈◌}
use Rattle.pixel.specs.Moving.{MovingSample}

-- x/255 divided by z/255
abbrev ratio : ℕ → ℕ → Fraction
ratio x z = (255 * x) over (255 * z)

ratio_is : (x z : ℕ) → x over 255 ⊘ z over 255 ≡ ratio x z
ratio_is x z = ap (λ (n : ℕ). n over (255 * z)) (mul_comm x 255)

-- the paper's subtractions, of fractions over 255 and of ratios
three_minus : (k : ℕ) → whole 3 ⊖ k over 255 ≡ (765 - k) over 255
three_minus k = ap (λ (n : ℕ). (765 - n) over 255) (mul-one k)

one_minus : (k : ℕ) → whole 1 ⊖ k over 255 ≡ (255 - k) over 255
one_minus k = ap (λ (n : ℕ). (255 - n) over 255) (mul-one k)

one_minus_ratio : (x z : ℕ) → whole 1 ⊖ ratio x z ≡ ratio (z - x) z
one_minus_ratio x z = ap₂ ◌over◌ (omega arith) (omega arith)

-- x × n / d is 255 times the fraction
pub record Is255Times (x n d : ℕ) (e : Fraction) : Type 0 where
  pub same : (x * n) over d ≈ whole 255 ⊗ e

-- the products of the paper: a ratio of intensities and a sample, a target and a ratio of samples, and half of that
module _ (x n z : ℕ) (positive : 0 < z) where
  ratio_first : Is255Times x n z (ratio n z ⊗ x over 255)
  ratio_first = record { same = (positive, omega arith, ac) }
    where
      ac : x * n * (1 * (255 * z * 255)) ≡ 255 * (255 * n * x) * z
      ac = simp (one-mul, mul_assoc, mul_comm, mul_left_comm)

  ratio_last : Is255Times x n z (n over 255 ⊗ ratio x z)
  ratio_last = record { same = (positive, omega arith, ac) }
    where
      ac : x * n * (1 * (255 * (255 * z))) ≡ 255 * (n * (255 * x)) * z
      ac = simp (one-mul, mul_assoc, mul_comm, mul_left_comm)

  ratio_halved : Is255Times x n (2 * z) (n over 255 ⊗ ratio x z ⊘ whole 2)
  ratio_halved = record { same = (omega arith, omega arith, ac) }
    where
      ac : x * n * (1 * (255 * (255 * z) * 2)) ≡ 255 * (n * (255 * x) * 1) * (2 * z)
      ac = simp (mul-one, one-mul, mul_assoc, mul_comm, mul_left_comm)

-- the formulas, by the paper's names for its cases
module _ {s f c : ℕ} (h : MovingSample s f c) where
  abbrev l̂ : Fraction
  l̂ = s over 255

  abbrev f̂ : Fraction
  f̂ = f over 255

  abbrev p̂ : Fraction
  p̂ = c over 255

  -- the paper's ᾱ, and its q̃ of case (III)
  abbrev ᾱ : Fraction
  ᾱ = (whole 3 ⊖ f̂) ⊘ (whole 3 ⊖ l̂)

  abbrev q̃ : Fraction
  q̃ = (whole 1 ⊖ p̂) ⊘ (whole 3 ⊖ l̂)

  ᾱ-is : ᾱ ≡ ratio (765 - f) (765 - s)
  ᾱ-is = ap₂ ◌⊘◌ (three_minus f) (three_minus s) ∙ ratio_is (765 - f) (765 - s)

  one-minus-p̃ : whole 1 ⊖ p̂ ⊘ l̂ ≡ ratio (s - c) s
  one-minus-p̃ = ap (λ (x : Fraction). whole 1 ⊖ x) (ratio_is c s) ∙ one_minus_ratio c s

  q̃-is : q̃ ≡ ratio (255 - c) (765 - s)
  q̃-is = ap₂ ◌⊘◌ (one_minus c) (three_minus s) ∙ ratio_is (255 - c) (765 - s)

  one-minus-q̃ : whole 1 ⊖ q̃ ≡ ratio (765 - s - (255 - c)) (765 - s)
  one-minus-q̃ = ap (λ (x : Fraction). whole 1 ⊖ x) q̃-is ∙ one_minus_ratio (255 - c) (765 - s)

  pub case_i_lem : Is255Times (c - 0) f s (f̂ ⊘ l̂ ⊗ p̂)
  case_i_lem =
      rw (sub-zero c)
      (subst⁻¹ (λ (x : Fraction). Is255Times c f s (x ⊗ p̂)) (ratio_is f s) (ratio_first c f s h.not_black))

  pub case_ii : Is255Times (255 - c) (765 - f) (765 - s) (ᾱ ⊗ (whole 1 ⊖ p̂))
  case_ii =
      subst⁻¹ (Is255Times (255 - c) (765 - f) (765 - s)) (ap₂ ◌⊗◌ ᾱ-is (one_minus c))
      (ratio_first (255 - c) (765 - f) (765 - s) (omega arith))

  pub case_i_i : Is255Times (c - 0) f s (f̂ ⊗ (p̂ ⊘ l̂))
  case_i_i =
      rw (sub-zero c)
      (subst⁻¹ (λ (x : Fraction). Is255Times c f s (f̂ ⊗ x)) (ratio_is c s) (ratio_last c f s h.not_black))

  pub case_i_ii : Is255Times (s - c) (765 - f) (2 * s) ((whole 3 ⊖ f̂) ⊗ (whole 1 ⊖ p̂ ⊘ l̂) ⊘ whole 2)
  case_i_ii =
      subst⁻¹ (λ (x : Fraction). Is255Times (s - c) (765 - f) (2 * s) (x ⊘ whole 2)) (ap₂ ◌⊗◌ (three_minus f) one-minus-p̃)
      (ratio_halved (s - c) (765 - f) s h.not_black)

  pub case_iii_i : 510 < s → Is255Times (c - (s - 510)) f (2 * (765 - s)) (f̂ ⊗ (whole 1 ⊖ q̃) ⊘ whole 2)
  case_iii_i bright =
      let t_minus_d : 765 - s - (255 - c) ≡ c - (s - 510) = omega arith in
      subst⁻¹ (λ (x : Fraction). Is255Times (c - (s - 510)) f (2 * (765 - s)) (f̂ ⊗ x ⊘ whole 2))
      (one-minus-q̃ ∙ ap (λ (n : ℕ). ratio n (765 - s)) t_minus_d)
      (ratio_halved (c - (s - 510)) f (765 - s) (omega arith))

  pub case_iii_ii_lem : Is255Times (255 - c) (765 - f) (765 - s) ((whole 3 ⊖ f̂) ⊗ (whole 1 ⊖ (whole 1 ⊖ q̃)))
  case_iii_ii_lem =
      let twice : 765 - s - (765 - s - (255 - c)) ≡ 255 - c = omega arith in
      subst⁻¹ (Is255Times (255 - c) (765 - f) (765 - s))
      (ap₂ ◌⊗◌ (three_minus f)
      (ap (λ (x : Fraction). whole 1 ⊖ x) one-minus-q̃
      ∙ one_minus_ratio (765 - s - (255 - c)) (765 - s)
      ∙ ap (λ (n : ℕ). ratio n (765 - s)) twice))
      (ratio_last (255 - c) (765 - f) (765 - s) (omega arith))
