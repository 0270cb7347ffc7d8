-- Laws of rounding, each over any fraction n / d with d > 0.
use mathlib.Core.Path.{◌≡◌, sym, ap₂, ◌∙◌}
use Prim.Native.Nat.{ℕ, ◌+◌, ◌*◌, ◌/◌, ◌%◌, ◌<◌, ◌≤◌}
use native.Mathlib.Nat.{mod-lt, div-add-mod', div-mul-le_self, lt-div-mul-add, mul_left_comm, add-mul, lt_of_mul-lt-mul_right, le_antisymm, mul_comm, mul_assoc, mul-div-mul_right}
use native.Mathlib.Omega.{arith}
use Rattle.rounding.specs.Near.{near, NearestHalfUp, NearMeans}

-- near n d is within its window of half a step around n / d
pub near_window : (n d : ℕ) → 0 < d → NearestHalfUp (near n d) n d
unfolding near
near_window n d positive =
    let q = (2 * n + d) / (2 * d) in
    let same : q * (2 * d) ≡ 2 * (q * d) = mul_left_comm q 2 d in
    let low : q * (2 * d) ≤ 2 * n + d = div-mul-le_self (2 * n + d) (2 * d) in
    let high : 2 * n + d < q * (2 * d) + 2 * d = lt-div-mul-add (omega arith) in
    record { above = omega arith; below = omega arith }

-- a whole number that is less than one step above another is no larger
pub less_step : (a b d : ℕ) → a * d < b * d + d → a ≤ b
less_step a b d h = omega (arith, lt_of_mul-lt-mul_right d {m = a} {n = b + 1} (omega (arith, add-mul b 1 d)))

-- two numbers in one window are equal
window_only : (p q n d : ℕ) → NearestHalfUp p n d → NearestHalfUp q n d → p ≡ q
window_only p q n d h k = le_antisymm (less_step p q d (omega arith)) (less_step q p d (omega arith))

pub near_means : NearMeans
near_means q n d positive =
    (λ h. window_only q (near n d) n d h (near_window n d positive), λ e. rw e (near_window n d positive))

-- fractions of the same value round alike
pub near_same : (n d n' d' : ℕ) → 0 < d → 0 < d' → n * d' ≡ n' * d → near n d ≡ near n' d'
unfolding near
near_same n d n' d' positive positive' same =
    let nums : (2 * n + d) * d' ≡ (2 * n' + d') * d =
    omega (arith, add-mul (2 * n) d d', add-mul (2 * n') d' d, mul_assoc 2 n d', mul_assoc 2 n' d, mul_comm d d') in
    let dens : 2 * d * d' ≡ 2 * d' * d = omega (arith, mul_assoc 2 d d', mul_assoc 2 d' d, mul_comm d d') in
    sym (mul-div-mul_right (2 * n + d) (2 * d) positive')
    ∙ ap₂ ◌/◌ nums dens
    ∙ mul-div-mul_right (2 * n' + d') (2 * d') positive

-- a remainder of half the divisor or more goes up
pub near_up : (n d : ℕ) → 0 < d → d ≤ 2 * (n % d) → n / d + 1 ≡ near n d
near_up n d positive half =
    let whole = div-add-mod' n d in
    let less : n % d < d = mod-lt n positive in
    (near_means (n / d + 1) n d positive).0
    (record { above = omega (arith, add-mul (n / d) 1 d); below = omega (arith, add-mul (n / d) 1 d) })

-- and less than that goes down
pub near_down : (n d : ℕ) → 0 < d → 2 * (n % d) < d → n / d ≡ near n d
near_down n d positive less =
    let whole = div-add-mod' n d in
    (near_means (n / d) n d positive).0 (record { above = omega arith; below = omega arith })

-- q is w, give or take 1
pub record WithinOne (w q : ℕ) : Type 0 where
  pub above : q ≤ w + 1
  pub below : w ≤ q + 1

module _ (d : ℕ) (positive : 0 < d) where
  -- at most m, if the fraction is
  pub near_le : (n m : ℕ) → n ≤ m * d → near n d ≤ m
  near_le n m h = less_step (near n d) m d (omega (arith, near_window n d positive))

  -- monotone: a larger fraction rounds to no less
  pub near_mono : (n m : ℕ) → n ≤ m → near n d ≤ near m d
  near_mono n m h =
      less_step (near n d) (near m d) d (omega (arith, near_window n d positive, near_window m d positive))

  -- the sum of three: where the fractions add up to the whole number w, the rounded ones add up to w, give or take 1
  pub near_sum : (w n m k : ℕ) → n + m + k ≡ w * d → WithinOne w (near n d + near m d + near k d)
  near_sum w n m k e =
      let q = near n d + near m d + near k d in
      let wn = near_window n d positive in
      let wm = near_window m d positive in
      let wk = near_window k d positive in
      let split : q * d ≡ near n d * d + near m d * d + near k d * d =
      omega (arith, add-mul (near n d + near m d) (near k d) d, add-mul (near n d) (near m d) d) in
      record {
        above = less_step q (w + 1) d (omega (arith, add-mul w 1 d));
        below = less_step w (q + 1) d (omega (arith, add-mul q 1 d));
      }

  -- the difference of two: near(n / d) - near(m / d) is less than one step above (n - m) / d
  pub near_difference : (n m : ℕ) → near n d * d + m < near m d * d + n + d
  near_difference n m = omega (arith, near_window n d positive, near_window m d positive)
