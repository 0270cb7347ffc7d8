-- Laws of numbered cases.
use mathlib.Core.Path.{◌≡◌, refl, sym}
use mathlib.Core.Bool.{Bool, true, false, ◌||◌, cond}
use mathlib.Core.List.{List, [], ◌∷◌}
use Prim.Native.Nat.{ℕ}
use borrow.Author.Tests.{eqb-true}
use lib.Dec.{eqb}
use Rattle.refusal.specs.Numbering.{is_number, case_of}

-- a number that names one of the cases is that case's
pub number_of_case : {A : Type 0} (number : A → ℕ) (first : A) (others : List A) (n : ℕ) → is_number number first others n ≡ true
    → number (case_of number first others n) ≡ n
number_of_case number first [] n named = sym (eqb-true n (number first) named)
number_of_case number first (second ∷ others) n named =
    go (eqb n (number first)) (eqb-true n (number first)) named (number_of_case number second others n)
  where
    go : (is : Bool) → (is ≡ true → n ≡ number first) → (is || is_number number second others n) ≡ true
        → (is_number number second others n ≡ true → number (case_of number second others n) ≡ n)
        → number (cond is first (case_of number second others n)) ≡ n
    go true same named rest = sym (same refl)
    go false same named rest = rest named
