-- Digits read from the first on: each makes the number so far ten times as large, and adds its own.
use Rattle.std.proofs.Common.{◌≡◌, ℕ, ◌+◌, ◌-◌, ◌*◌, ◌^◌, ◌<◌, ◌≤◌, List, length, drop, add-one, arith}
use native.Mathlib.Nat.{pow-suc, pow-le-pow_right}
use lib.ListN.{drop_of_length-le}
use lib.Seq.{drop-cons}
use Rattle.tables.specs.Table.{at}
use Rattle.text.specs.Decimal.{zero_code, Digits, value_after, value}
use Rattle.text.proofs.Decimal.{digit_range}

-- the loop's invariant: after the number so far, the digits from i on stand for what all stand for
pub record ReadTo (digits : List ℕ) (i number : ℕ) : Type 0 where
  pub below : number < 10 ^ i
  pub rest : value_after number (drop i digits) ≡ value digits

module _ {digits : List ℕ} {i number : ℕ} (all : Digits digits) (sofar : ReadTo digits i number) where
  pub read_more : i < length digits → ReadTo digits (i + 1) (10 * number + (at digits i - zero_code))
  unfolding value_after
  read_more less = rw add-one record {
    below = omega (arith, digit_range (at digits i) (all i less), sofar.below, pow-suc 10 i);
    rest = rw (drop-cons digits i 0) at sofar.rest;
  }

  -- 19 digits fit
  pub read_fits : length digits ≤ 19 → i < length digits → 10 * number + (at digits i - zero_code) < 10 ^ 19
  read_fits few less =
      omega (arith, digit_range (at digits i) (all i less), sofar.below, pow-le-pow_right {n = 10} (omega arith) {i = i} {j = 18} (omega arith))

  pub read_end : length digits ≤ i → number ≡ value digits
  unfolding value_after
  read_end past = rw (drop_of_length-le digits past) at sofar.rest
