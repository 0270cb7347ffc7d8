-- Source 004, equation 11: the integral A(l) of the area of the RGB cube's cross section, for an intensity l from 0 to 3.
use Rattle.std.specs.Prelude.{cond}
use Rattle.rounding.specs.Fraction.{Fraction, whole, ◌⊕◌, ◌⊖◌, ◌⊗◌, ◌≼ᵇ◌}

-- 0 ≤ l ≤ 1: A(l) = √3/6 · l³. Here and below the factor √3/6 is left out.
abbrev pub area₁ : Fraction → Fraction
area₁ l = l ⊗ l ⊗ l

-- 1 ≤ l ≤ 2: A(l) = √3/6 · (3 − 2l³ + 9l² − 9l), what is added first
abbrev pub added₂ : Fraction → Fraction
added₂ l = whole 3 ⊕ whole 9 ⊗ l ⊗ l

abbrev pub taken₂ : Fraction → Fraction
taken₂ l = whole 2 ⊗ l ⊗ l ⊗ l ⊕ whole 9 ⊗ l

abbrev pub area₂ : Fraction → Fraction
area₂ l = added₂ l ⊖ taken₂ l

-- 2 ≤ l ≤ 3: A(l) = √3/6 · [6 − (3 − l)³]
abbrev pub taken₃ : Fraction → Fraction
taken₃ l = (whole 3 ⊖ l) ⊗ (whole 3 ⊖ l) ⊗ (whole 3 ⊖ l)

abbrev pub area₃ : Fraction → Fraction
area₃ l = whole 6 ⊖ taken₃ l

unfoldable pub area : Fraction → Fraction
area l = cond (l ≼ᵇ whole 1) (area₁ l) (cond (l ≼ᵇ whole 2) (area₂ l) (area₃ l))
