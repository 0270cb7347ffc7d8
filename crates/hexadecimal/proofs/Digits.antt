-- Laws of one hexadecimal digit.
use Rattle.std.proofs.Common.{◌≡◌, ℕ, ◌≤◌, ◌<◌, true, arith}
use Rattle.std.proofs.lemmas.Bool.Decides.{nat_tests}
use Rattle.scanning.specs.Scanning.{is_hex_digit}
use Rattle.hexadecimal.specs.Hexadecimal.{digit_value, digit_code}

-- what a byte stands for is at most 15
pub digit_value_small : (b : ℕ) → digit_value b ≤ 15
unfolding digit_value
digit_value_small b = grind (arith, nat_tests)

-- the digit for a number is a digit, and stands for that number
pub code_reads : (d : ℕ) → d < 16 → (is_hex_digit (digit_code d) ≡ true) × (digit_value (digit_code d) ≡ d)
unfolding digit_value
code_reads d less = (grind (arith, nat_tests), grind (arith, nat_tests))
