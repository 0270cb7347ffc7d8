-- Case distinctions.
use mathlib.Core.Path.{◌≡◌, refl}
use mathlib.Core.Bool.{Bool, true, false, cond}
use Prim.Native.Nat.{ℕ, ◌≤◌, ◌<◌}
use borrow.Author.Tests.{leb-true, leb-false}
use lib.Dec.{leb}

-- one value whatever the test
pub cond_same : {A : Type 0} (t : Bool) (a : A) → cond t a a ≡ a
cond_same true a = refl
cond_same false a = refl

-- m is at most n, or above it
pub either : {P : Type 0} (m n : ℕ) → (m ≤ n → P) → (n < m → P) → P
either {P} m n low high = go (leb m n) (leb-true m n) (leb-false m n)
  where
    go : (t : Bool) → (t ≡ true → m ≤ n) → (t ≡ false → n < m) → P
    go true p q = low (p refl)
    go false p q = high (q refl)
