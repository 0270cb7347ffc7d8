-- Refusals as ordered lists (document 01, "Who can cause which refusal": "The first that applies is named").
use Rattle.std.specs.Prelude.{◌≡◌, Bool, true, false, ◌&&◌, ◌||◌, not, cond, List, [], ◌∷◌, ◌↔◌, ℕ, ltb, eqb}

-- A check of a call: whether its refusal applies, and the refusal's number.
pub record Check : Type 0 where
  pub applies : Bool
  pub number : ℕ

-- Where t holds, the call is refused by the number n.
infix 68 ◌refuses◌
abbrev pub ◌refuses◌ : Bool → ℕ → Check
t refuses n = record { applies = t; number = n }

-- The number that a call hands back: that of the first check that applies, or 0 where none does.
abbrev pub first_of : List Check → ℕ
first_of [] = 0
first_of (c ∷ cs) = cond c.applies c.number (first_of cs)

-- What a call with this number leaves: the new where it was accepted, by the number 0, and else the old.
abbrev pub if_accepted : {A : Type 0} → ℕ → A → A → A
if_accepted number new old = cond (eqb number 0) new old

-- No check of the list applies.
abbrev pub NoneApplies : List Check → Type 0
NoneApplies [] = Unit {0}
NoneApplies (c ∷ cs) = (c.applies ≡ false) × NoneApplies cs

-- Whether 0 is kept for "accepted": each check has a number above it, or does not apply.
abbrev pub are_numbered : List Check → Bool
are_numbered [] = true
are_numbered (c ∷ cs) = (ltb 0 c.number || not c.applies) && are_numbered cs

-- Claim: the answer is 0 exactly if no check applies. Proved: proofs/Laws.antt, `accepted_means`.
abbrev pub AcceptedMeans : Type 0
AcceptedMeans = (checks : List Check) → are_numbered checks ≡ true → (first_of checks ≡ 0) ↔ NoneApplies checks
