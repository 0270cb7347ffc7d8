-- Laws of decimal numbers.
use mathlib.Core.Path.{◌≡◌, refl, sym, ap, ◌∙◌}
use mathlib.Core.Bool.{true}
use mathlib.Core.List.{List, [], ◌∷◌, ◌++◌}
use mathlib.Core.Logic.{⊎_elim}
use Prim.Native.Nat.{ℕ, zero, suc, ◌+◌, ◌-◌, ◌*◌, ◌/◌, ◌%◌, ◌^◌, ◌<◌, ◌≤◌, zero-le, suc-le-suc}
use native.Mathlib.Nat.{not-suc-le-zero, eq-or-lt_of_le, pow-suc, mul-le-mul_right, mul_assoc, mul_comm}
use native.Mathlib.Omega.{arith}
use borrow.Author.Tests.{lt-ltb, le-ltb}
use lib.ListN.{length, length-append, get_or-append}
use lib.Seq.{get_or-append_seam}
use Rattle.std.proofs.lemmas.Bool.Decides.{nat_tests}
use Rattle.tables.specs.Table.{at}
use Rattle.tables.proofs.Cases.{either}
use Rattle.text.specs.Decimal.{zero_code, is_digit, Digits, value_after, value, decimal_within, decimal, DecimalMeans}

pub digit_range : (b : ℕ) → is_digit b ≡ true → (zero_code ≤ b) × (b ≤ zero_code + 9)
digit_range b digit = (grind (arith, nat_tests), grind (arith, nat_tests))

code_digit : (d : ℕ) → d < 10 → is_digit (zero_code + d) ≡ true
code_digit d small = grind (arith, nat_tests)

no_digits : Digits []
no_digits i less = absurd (not-suc-le-zero less)

-- one more digit at the end: all are digits
digits_more : (digits : List ℕ) (d : ℕ) → d < 10 → Digits digits → Digits (digits ++ ((zero_code + d) ∷ []))
digits_more digits d small all i less =
    ⊎_elim
    (λ (last : i ≡ length digits). rw (last, get_or-append_seam) (code_digit d small))
    (λ (before : i < length digits). rw get_or-append (all i before))
    (eq-or-lt_of_le (omega (arith, length-append digits ((zero_code + d) ∷ []))))

-- one more digit at the end: ten times the number, and the digit's
value_more : (before : ℕ) (digits : List ℕ) (d : ℕ)
    → value_after before (digits ++ (d ∷ [])) ≡ 10 * value_after before digits + (d - zero_code)
unfolding value_after
value_more before [] d = refl
value_more before (digit ∷ digits) d = value_more (10 * before + (digit - zero_code)) digits d

-- a number so far, and k digits after it, stand for less than its successor times 10^k
after_below : (before : ℕ) (digits : List ℕ) → Digits digits → value_after before digits < suc before * 10 ^ length digits
unfolding value_after
after_below before [] all = omega arith
after_below before (digit ∷ digits) all =
    let more = 10 * before + (digit - zero_code) in
    let most : suc more * 10 ^ length digits ≤ suc before * 10 * 10 ^ length digits =
    mul-le-mul_right (10 ^ length digits) (omega (arith, (digit_range digit (all 0 (suc-le-suc zero-le))).1)) in
    let same : suc before * 10 * 10 ^ length digits ≡ suc before * 10 ^ suc (length digits) =
    mul_assoc (suc before) 10 (10 ^ length digits) ∙ ap (λ (n : ℕ). suc before * n) (mul_comm 10 (10 ^ length digits) ∙ sym (pow-suc 10 (length digits))) in
    omega (arith, after_below more digits (λ i less. all (suc i) (suc-le-suc less)), most, same)

-- k digits stand for less than 10^k
pub value_below : (digits : List ℕ) → Digits digits → value digits < 10 ^ length digits
value_below digits all = omega (arith, after_below 0 digits all)

tenth : (k n : ℕ) → n < 10 ^ suc k → n / 10 < 10 ^ k
tenth k n less = omega (arith, pow-suc 10 k)

within_one : (most n : ℕ) → n < 10 → decimal_within (suc most) n ≡ (zero_code + n) ∷ []
unfolding decimal_within
within_one most n small = rw (lt-ltb n 10 small)

within_more : (most n : ℕ) → 10 ≤ n → decimal_within (suc most) n ≡ decimal_within most (n / 10) ++ ((zero_code + n % 10) ∷ [])
unfolding decimal_within
within_more most n large = rw (le-ltb n 10 large)

-- what holds of one digit, and of more, holds
by_size : (P : List ℕ → Type 0) (most n : ℕ)
    → (n < 10 → P ((zero_code + n) ∷ []))
    → (10 ≤ n → P (decimal_within most (n / 10) ++ ((zero_code + n % 10) ∷ [])))
    → P (decimal_within (suc most) n)
by_size P most n one more =
    either 10 n
    (λ large. rw (within_more most n large) (more large))
    (λ small. rw (within_one most n small) (one small))

digits_within : (most n : ℕ) → Digits (decimal_within most n)
unfolding decimal_within
digits_within zero n = no_digits
digits_within (suc most) n =
    by_size Digits most n
    (λ small. digits_more [] n small no_digits)
    (λ large. digits_more (decimal_within most (n / 10)) (n % 10) (omega arith) (digits_within most (n / 10)))

some_within : (most n : ℕ) → 0 < length (decimal_within (suc most) n)
some_within most n =
    by_size (λ digits. 0 < length digits) most n
    (λ small. omega arith)
    (λ large. rw length-append (omega arith))

value_within : (most n : ℕ) → n < 10 ^ most → value (decimal_within most n) ≡ n
unfolding decimal_within value_after
value_within zero n less = omega arith
value_within (suc most) n less =
    by_size (λ digits. value digits ≡ n) most n
    (λ small. omega arith)
    (λ large. rw value_more (omega (arith, value_within most (n / 10) (tenth most n less))))

-- the first digit stays the first
first_kept : (digits more : List ℕ) → zero_code < at digits 0 → zero_code < at (digits ++ more) 0
first_kept [] more above = omega arith
first_kept (digit ∷ digits) more above = above

first_within : (most n : ℕ) → 0 < n → n < 10 ^ most → zero_code < at (decimal_within most n) 0
first_within zero n some less = omega arith
first_within (suc most) n some less =
    by_size (λ digits. zero_code < at digits 0) most n
    (λ small. omega arith)
    (λ large. first_kept (decimal_within most (n / 10)) _ (first_within most (n / 10) (omega arith) (tenth most n less)))

length_within : (most n k : ℕ) → n < 10 ^ suc k → length (decimal_within most n) ≤ suc k
unfolding decimal_within
length_within zero n k less = omega arith
length_within (suc most) n zero less = rw (within_one most n less) (omega arith)
length_within (suc most) n (suc k) less =
    by_size (λ digits. length digits ≤ suc (suc k)) most n
    (λ small. omega arith)
    (λ large. rw length-append (omega (arith, length_within most (n / 10) k (tenth (suc k) n less))))

-- where a number has few enough digits, to allow one more changes nothing
within_enough : (most n : ℕ) → n < 10 ^ suc most → decimal_within (suc most) n ≡ decimal_within (suc (suc most)) n
within_enough zero n less = rw (within_one 0 n less, within_one 1 n less)
within_enough (suc most) n less =
    by_size (λ digits. digits ≡ decimal_within (suc (suc (suc most))) n) (suc most) n
    (λ small. rw (within_one (suc (suc most)) n small))
    (λ large. rw (within_more (suc (suc most)) n large, within_enough most (n / 10) (tenth (suc most) n less)))

pub decimal_one : (n : ℕ) → n < 10 → decimal n ≡ (zero_code + n) ∷ []
unfolding decimal
decimal_one n small = within_one 19 n small

pub decimal_more : (n : ℕ) → 10 ≤ n → n < 10 ^ 20 → decimal n ≡ decimal (n / 10) ++ ((zero_code + n % 10) ∷ [])
unfolding decimal
decimal_more n large less = rw (within_more 19 n large, within_enough 18 (n / 10) (tenth 19 n less))

length_most : (n k : ℕ) → 0 < k → n < 10 ^ k → length (decimal n) ≤ k
unfolding decimal
length_most n zero some less = omega arith
length_most n (suc k) some less = length_within 20 n k less

pub decimal_means : DecimalMeans
unfolding decimal
decimal_means = record {
  digits = digits_within 20;
  some = some_within 19;
  value = value_within 20;
  no_zero_first = first_within 20;
  most = length_most;
}
