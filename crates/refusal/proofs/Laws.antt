-- Laws of refusals.
use mathlib.Core.Path.{◌≡◌, refl}
use mathlib.Core.Bool.{Bool, true, false, ◌&&◌, ◌||◌, not, cond, false≢true}
use mathlib.Core.List.{List, [], ◌∷◌}
use Prim.Native.Nat.{ℕ, ◌<◌}
use native.Mathlib.Omega.{arith}
use borrow.Author.Tests.{eqb-true, eq-eqb, ne_eqb, ltb-true}
use lib.Dec.{ltb, eqb}
use Rattle.refusal.specs.Refusal.{Check, first_of, if_accepted, NoneApplies, are_numbered, AcceptedMeans}

-- an answer of 0 says that no check applies
pub none_applies : (checks : List Check) → are_numbered checks ≡ true → first_of checks ≡ 0 → NoneApplies checks
none_applies [] numbered e = tt
none_applies (c ∷ cs) numbered e = go c.applies (ltb 0 c.number) (ltb-true 0 c.number) numbered e (none_applies cs)
  where
    go : (applies positive : Bool) → (positive ≡ true → 0 < c.number) → ((positive || not applies) && are_numbered cs) ≡ true
        → cond applies c.number (first_of cs) ≡ 0 → (are_numbered cs ≡ true → first_of cs ≡ 0 → NoneApplies cs)
        → (applies ≡ false) × NoneApplies cs
    go true true above numbered e rest = absurd (omega (arith, above refl))
    go true false above numbered e rest = absurd (false≢true numbered)
    go false true above numbered e rest = (refl, rest numbered e)
    go false false above numbered e rest = (refl, rest numbered e)

-- and where none applies, the answer is 0
pub accepted : (checks : List Check) → NoneApplies checks → first_of checks ≡ 0
accepted [] none = refl
accepted (c ∷ cs) (first, others) = rw first (accepted cs others)

pub accepted_means : AcceptedMeans
accepted_means checks numbered = (none_applies checks numbered, accepted checks)

-- what holds of every check's number
abbrev pub EachNumber : (ℕ → Type 0) → List Check → Type 0
EachNumber P [] = Unit {0}
EachNumber P (c ∷ checks) = P c.number × EachNumber P checks

-- and of 0, holds of the answer
pub first_keeps : (P : ℕ → Type 0) (checks : List Check) → EachNumber P checks → P 0 → P (first_of checks)
first_keeps P [] each none = none
first_keeps P (c ∷ checks) (one, each) none = go c.applies (first_keeps P checks each none)
  where
    go : (applies : Bool) → P (first_of checks) → P (cond applies c.number (first_of checks))
    go true rest = one
    go false rest = rest

-- What a call leaves.
module _ {A : Type 0} (number : ℕ) (new old : A) where
  pub accepted_leaves : number ≡ 0 → if_accepted number new old ≡ new
  accepted_leaves zero = simp (eq-eqb number 0 zero)

  pub refused_leaves : (number ≡ 0 → ⊥) → if_accepted number new old ≡ old
  refused_leaves refused = simp (ne_eqb number 0 refused)

  -- what holds of both holds of what is left
  pub either_leaves : (P : A → Type 0) → (number ≡ 0 → P new) → P old → P (if_accepted number new old)
  either_leaves P accepted refused = go (eqb number 0) refl
    where
      go : (t : Bool) → eqb number 0 ≡ t → P (cond t new old)
      go true z = accepted (eqb-true number 0 z)
      go false z = refused
