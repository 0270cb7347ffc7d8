-- A number's tenth has one digit less: it is written before the last digit.
use Rattle.std.proofs.Common.{◌≡◌, ℕ, ◌+◌, ◌/◌, ◌^◌, ◌<◌, ◌≤◌, length, length-append}
use Rattle.text.specs.Decimal.{decimal}
use Rattle.text.proofs.Decimal.{decimal_more}

pub tenth_shorter : (n : ℕ) → 10 ≤ n → n < 10 ^ 20 → length (decimal (n / 10)) + 1 ≡ length (decimal n)
tenth_shorter n large less = rw (decimal_more n large less, length-append)
