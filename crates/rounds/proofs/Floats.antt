-- The floats of the head: a number of 16 bits, and its 256th part, are not rounded.
use mathlib.Core.Path.{◌≡◌, refl, sym, ap, ◌∙◌}
use mathlib.Core.Bool.{true, false, true≢false}
use Prim.Native.Nat.{ℕ, ◌*◌, ◌^◌, ◌<◌}
use native.Mathlib.Nat.{mul_assoc, mul_comm, mul-pos, lt_of_lt_of_le, le_of_lt, le_trans, mul-lt-mul_of_pos_right}
use lib.Dec.{lit<, lit≤}
use lib.IntN.{pos}
use lib.Pow.{pow_pos}
use lib.Ieee.{Float, nan, inf, fin, binary32, up, down, round, div, of_int, of_bits}
use lib.Ieee.Back.{round_whole}
use lib.Ieee.Exact.{HasValue, round_exact}
use lib.Ieee.Fits.{down_pos}
use lib.Ieee.Scale.{round_same}
use Rattle.dial.specs.Dial.{IsExactly}

-- a float that is plus k / n is so exactly
is_exactly : (x : Float) (k n : ℕ) → HasValue x false k n → IsExactly x k n
is_exactly nan k n at = at
is_exactly (inf s) k n at = at
is_exactly (fin true m e) k n at = absurd (true≢false at.0)
is_exactly (fin false m e) k n at = (refl, at.1)

module _ (k : ℕ) (fits : k < 2 ^ 16) where
  whole_value : HasValue (of_int binary32 (pos k)) false k 1
  unfolding of_int
  whole_value = round_whole binary32 false k (le_trans (le_of_lt fits) (lit≤ tt))

  -- the cast
  pub whole_exactly : IsExactly (of_int binary32 (pos k)) k 1
  whole_exactly = is_exactly (of_int binary32 (pos k)) k 1 whole_value

  -- k / 256 has few digits
  part_value : HasValue (round binary32 false k 256) false k 256
  part_value =
      round_exact binary32 false k 256 k 141 (lit< tt) (lt_of_lt_of_le fits (lit≤ tt))
      (lt_of_lt_of_le (mul-lt-mul_of_pos_right fits (pow_pos 141)) (lit≤ tt))
      (sym (mul_assoc k (2 ^ 141) 256))

  -- and is what the machine divides to
  divided : (x : Float) → HasValue x false k 1 → div binary32 x (fin false 1 (pos 8)) ≡ round binary32 false k 256
  unfolding div
  divided nan at = absurd at
  divided (inf s) at = absurd at
  divided (fin true m e) at = absurd (true≢false at.0)
  divided (fin false m e) at =
      round_same binary32 false (m * up e * 1) (256 * down e) k 256 (mul-pos (lit< tt) (down_pos e)) (lit< tt)
      (ap (λ (a : ℕ). a * 256) at.1 ∙ mul_assoc k (down e) 256 ∙ ap (λ (a : ℕ). k * a) (mul_comm (down e) 256))

  -- the cast, divided by the float whose pattern this is: 256
  pub part_exactly : (x : Float) → x ≡ of_int binary32 (pos k) → IsExactly (div binary32 x (of_bits binary32 1132462080)) k 256
  unfolding of_bits
  part_exactly x is = rw (is, divided (of_int binary32 (pos k)) whole_value) (is_exactly (round binary32 false k 256) k 256 part_value)
