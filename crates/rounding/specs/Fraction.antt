-- Exact fractions of whole numbers, in which the paper's formulas are written.
use Rattle.std.specs.Prelude.{◌≡◌, Bool, ℕ, ◌+◌, ◌-◌, ◌*◌, ◌<◌, ◌≤◌, leb}
use Rattle.rounding.specs.Near.{near}

-- num / den
pub record Fraction : Type 0 where
  pub num : ℕ
  pub den : ℕ

infix 80 ◌over◌
infixl 60 ◌⊕◌
infixl 60 ◌⊖◌
infixl 70 ◌⊗◌
infixl 70 ◌⊘◌
infix 50 ◌≼ᵇ◌
infix 50 ◌≼◌
infix 50 ◌≺◌
infix 50 ◌≈◌
abbrev pub ◌over◌ : ℕ → ℕ → Fraction
n over d = record { num = n; den = d }

abbrev pub whole : ℕ → Fraction
whole n = n over 1

abbrev pub ◌⊕◌ : Fraction → Fraction → Fraction
x ⊕ y = (x.num * y.den + y.num * x.den) over (x.den * y.den)

-- exact where y is at most x
abbrev pub ◌⊖◌ : Fraction → Fraction → Fraction
x ⊖ y = (x.num * y.den - y.num * x.den) over (x.den * y.den)

abbrev pub ◌⊗◌ : Fraction → Fraction → Fraction
x ⊗ y = (x.num * y.num) over (x.den * y.den)

-- exact where y is not 0
abbrev pub ◌⊘◌ : Fraction → Fraction → Fraction
x ⊘ y = (x.num * y.den) over (x.den * y.num)

-- whether x is at most y, where both denominators are positive
abbrev pub ◌≼ᵇ◌ : Fraction → Fraction → Bool
x ≼ᵇ y = leb (x.num * y.den) (y.num * x.den)

-- x is at most y, where both denominators are positive
abbrev pub ◌≼◌ : Fraction → Fraction → Type 0
x ≼ y = x.num * y.den ≤ y.num * x.den

-- x is less than y, where both denominators are positive
abbrev pub ◌≺◌ : Fraction → Fraction → Type 0
x ≺ y = x.num * y.den < y.num * x.den

-- x and y are less than w apart, where w's denominator is positive (where x's or y's is 0, this does not hold)
abbrev pub Within : Fraction → Fraction → Fraction → Type 0
Within w x y = (x ≺ y ⊕ w) × (y ≺ x ⊕ w)

-- x and y are at most w apart, and all three are numbers
abbrev pub AtMostApart : Fraction → Fraction → Fraction → Type 0
AtMostApart w x y = (0 < w.den) × (0 < x.den) × (0 < y.den) × (x ≼ y ⊕ w) × (y ≼ x ⊕ w)

-- x and y are the same number
abbrev pub ◌≈◌ : Fraction → Fraction → Type 0
x ≈ y = (0 < x.den) × (0 < y.den) × (x.num * y.den ≡ y.num * x.den)

-- near of a fraction
abbrev pub nearest : Fraction → ℕ
nearest x = near x.num x.den
