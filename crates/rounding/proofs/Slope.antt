-- The multiply-and-shift is exact: what the slope has too much stays below the gap to the next whole number.
use mathlib.Core.Path.{◌≡◌}
use Prim.Native.Nat.{ℕ, ◌+◌, ◌*◌, ◌/◌, ◌<◌, ◌≤◌}
use native.Mathlib.Nat.{div-mul-le_self, lt-div-mul-add, add-mul, mul-add, mul_assoc, mul_comm, mul_left_comm, mul-le-mul_left, mul-le-mul_right, lt_of_mul-lt-mul_left}
use native.Mathlib.Omega.{arith}
use Rattle.rounding.specs.Near.{near}
use Rattle.rounding.specs.Slope.{slope, MultiplyAndShift}
use Rattle.rounding.proofs.Laws.{near_means}

module _ (half x n d : ℕ) (positive : 0 < d) (small : x * d < half) where
  abbrev parts : ℕ
  parts = n * (2 * half)

  abbrev a : ℕ
  a = slope half n d

  -- the slope, d times: the parts of n, and at most d too many
  slope_over : (parts < a * d) × (a * d ≤ parts + d)
  slope_over =
      let e = add-mul (parts / d) 1 d in
      let low : parts < parts / d * d + d = lt-div-mul-add positive in
      (omega arith, omega (arith, div-mul-le_self parts d))

  -- its multiple, d times: the parts of x × n, and less than half too many
  multiple_over : (half * (2 * (x * n)) ≤ x * a * d) × (x * a * d < half * (2 * (x * n)) + half)
  multiple_over =
      let below = mul-le-mul_left {m = parts} {n = a * d} x (omega (arith, slope_over.0)) in
      let above = mul-le-mul_left {m = a * d} {n = parts + d} x slope_over.1 in
      let ac : half * (2 * (x * n)) ≡ x * parts = simp (mul_assoc, mul_comm, mul_left_comm) in
      (omega (arith, mul_assoc x a d), omega (arith, mul_assoc x a d, mul-add x parts d))

  abbrev q : ℕ
  q = (x * a + half) / (2 * half)

  -- the steps of the multiple and a half, d times
  steps_over : (half * (2 * (q * d)) ≤ x * a * d + half * d) × (x * a * d + half * d < half * (2 * (q * d) + 2 * d))
  steps_over =
      let v = x * a + half in
      let below = mul-le-mul_right {m = q * (2 * half)} {n = v} d (div-mul-le_self v (2 * half)) in
      let next : v < q * (2 * half) + 2 * half = lt-div-mul-add (omega arith) in
      let above = mul-le-mul_right {m = v + 1} {n = q * (2 * half) + 2 * half} d (omega arith) in
      let ac : q * (2 * half) * d ≡ half * (2 * (q * d)) = simp (mul_assoc, mul_comm, mul_left_comm) in
      let ac' : 2 * half * d ≡ half * (2 * d) = simp (mul_assoc, mul_comm, mul_left_comm) in (
        omega (arith, add-mul (x * a) half d),
        omega (
          arith,
          add-mul v 1 d,
          add-mul (x * a) half d,
          add-mul (q * (2 * half)) (2 * half) d,
          mul-add half (2 * (q * d)) (2 * d),
        ),
      )

  cancel : (m k : ℕ) → half * m < half * k → m < k
  cancel m k = lt_of_mul-lt-mul_left half

  shift_is_near : q ≡ near (x * n) d
  shift_is_near =
      (near_means q (x * n) d positive).0
      (record {
        above = omega (arith, cancel (2 * (q * d)) (2 * (x * n) + d + 1) (omega (arith, steps_over, multiple_over, mul-add half (2 * (x * n) + d) 1, mul-add half (2 * (x * n)) d)));
        below = omega (arith, cancel (2 * (x * n) + d) (2 * (q * d) + 2 * d) (omega (arith, steps_over, multiple_over, mul-add half (2 * (x * n)) d)));
      })

pub multiply_and_shift : MultiplyAndShift
multiply_and_shift = shift_is_near
