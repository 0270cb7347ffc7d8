-- Cases that a call's argument names by a number, as document 01 numbers the methods and the curve choices.
use Rattle.std.specs.Prelude.{◌≡◌, Bool, true, false, ◌||◌, cond, List, [], ◌∷◌, ℕ, eqb, Result, MatchResult}
use Rattle.refusal.specs.declared.Refusal.{Refusal}

-- Whether n is the number of the first case or of one of the others.
abbrev pub is_number : {A : Type 0} → (A → ℕ) → A → List A → ℕ → Bool
is_number number first [] n = eqb n (number first)
is_number number first (second ∷ others) n = eqb n (number first) || is_number number second others n

-- The case whose number n is; the last one where it is no other's.
abbrev pub case_of : {A : Type 0} → (A → ℕ) → A → List A → ℕ → A
case_of number first [] n = first
case_of number first (second ∷ others) n = cond (eqb n (number first)) first (case_of number second others n)

-- A case's number names it, and every number that names a case is that case's.
pub record IsNumbering {A : Type 0} (number : A → ℕ) (isCase : ℕ → Bool) (caseBy : ℕ → A) : Type 0 where
  pub named : (a : A) → isCase (number a) ≡ true
  pub back : (a : A) → caseBy (number a) ≡ a
  pub only : (n : ℕ) → isCase n ≡ true → number (caseBy n) ≡ n

-- What a number is read as: the case that it names, or this refusal where it names none.
abbrev pub Named : {A : Type 0} → (ℕ → Bool) → (ℕ → A) → Refusal → ℕ → Result A Refusal → Type 0
Named is_case case_by refusal n r =
    MatchResult r (λ a. (is_case n ≡ true) × (a ≡ case_by n)) (λ e. (is_case n ≡ false) × (e ≡ refusal))
