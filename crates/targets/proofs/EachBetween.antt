-- The carrying lemma of this project's tables: a claim about each number of a range, from one test that is computed over all of it.
use mathlib.Core.Path.{subst}
use mathlib.Core.Logic.{⊎_elim}
use mathlib.Core.Bool.{Bool, true, false, ◌&&◌}
use Prim.Native.Nat.{ℕ, zero, suc, ◌+◌, ◌-◌, ◌<◌, ◌≤◌}
use native.Mathlib.Nat.{not-suc-le-zero, le_of_suc-le-suc, eq-or-lt_of_le, add-sub_of_le}
use native.Mathlib.Omega.{arith}
use lib.Dec.{T}

-- the test passes at each number below n
abbrev pub all_below : (ℕ → Bool) → ℕ → Bool
all_below test zero = true
all_below test (suc n) = test n && all_below test n

pub first_of_both : (a b : Bool) → T (a && b) → T a
first_of_both true b h = tt
first_of_both false b h = h

pub second_of_both : (a b : Bool) → T (a && b) → T b
second_of_both true b h = h
second_of_both false b h = absurd h

each_below : (test : ℕ → Bool) (n : ℕ) → T (all_below test n) → (k : ℕ) → k < n → T (test k)
each_below test zero passed k h = absurd (not-suc-le-zero h)
each_below test (suc n) passed k h =
    let rest = each_below test n (second_of_both (test n) (all_below test n) passed) k in
    ⊎_elim (λ e. rw e (first_of_both (test n) (all_below test n) passed)) rest (eq-or-lt_of_le (le_of_suc-le-suc h))

-- the test passes at each number from m on, n of them
pub each_between : (test : ℕ → Bool) (m n : ℕ) → T (all_below (λ i. test (m + i)) n)
    → (k : ℕ) → m ≤ k → k < m + n → T (test k)
each_between test m n passed k low high =
    subst (λ (i : ℕ). T (test i)) (add-sub_of_le low) (each_below (λ i. test (m + i)) n passed (k - m) (omega arith))
