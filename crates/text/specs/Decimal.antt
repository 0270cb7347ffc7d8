-- Decimal numbers as text, in ASCII.
use Rattle.std.specs.Prelude.{◌≡◌, Bool, true, ◌&&◌, cond, List, [], ◌∷◌, ◌++◌, ℕ, zero, suc, ◌+◌, ◌-◌, ◌*◌, ◌/◌, ◌%◌, ◌^◌, ◌≤◌, ◌<◌, leb, ltb, length}
use Prim.Native.Char.{code}
use Rattle.tables.specs.Table.{at}

-- The code of the digit 0; those of 1 to 9 follow it.
abbrev pub zero_code : ℕ
zero_code = code "0"

-- Whether a byte is the code of a digit, 0 to 9.
abbrev pub is_digit : ℕ → Bool
is_digit b = leb zero_code b && leb b (zero_code + 9)

-- Every byte of the list is.
abbrev pub Digits : List ℕ → Type 0
Digits bytes = (i : ℕ) → i < length bytes → is_digit (at bytes i) ≡ true

-- The number that digits stand for, after others that stand for `before`.
unfoldable pub value_after : ℕ → List ℕ → ℕ
value_after before [] = before
value_after before (digit ∷ digits) = value_after (10 * before + (digit - zero_code)) digits

-- The number that digits stand for; zeros in front change nothing.
abbrev pub value : List ℕ → ℕ
value digits = value_after 0 digits

-- n in decimal, without leading zeros, if it has at most so many digits.
unfoldable pub decimal_within : ℕ → ℕ → List ℕ
decimal_within zero n = []
decimal_within (suc most) n = cond (ltb n 10) ((zero_code + n) ∷ []) (decimal_within most (n / 10) ++ ((zero_code + n % 10) ∷ []))

-- n in decimal, without leading zeros. 20 digits hold every number of 64 bits.
unfoldable pub decimal : ℕ → List ℕ
decimal n = decimal_within 20 n

-- Claim: `decimal n` is digits, at least one. For n below 10^20 they stand for n, with no zero first unless n is 0; for n below 10^k
-- they are at most k. Proved: proofs/Decimal.antt, `decimal_means`.
pub record DecimalMeans : Type 0 where
  pub digits : (n : ℕ) → Digits (decimal n)
  pub some : (n : ℕ) → 0 < length (decimal n)
  pub value : (n : ℕ) → n < 10 ^ 20 → value (decimal n) ≡ n
  pub no_zero_first : (n : ℕ) → 0 < n → n < 10 ^ 20 → zero_code < at (decimal n) 0
  pub most : (n k : ℕ) → 0 < k → n < 10 ^ k → length (decimal n) ≤ k
