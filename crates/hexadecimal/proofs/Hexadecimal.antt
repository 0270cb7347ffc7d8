-- Laws of bytes as hexadecimal digits.
use mathlib.Core.Path.{◌≡◌, refl, ap, ap₂}
use mathlib.Core.Bool.{true}
use mathlib.Core.List.{List, [], ◌∷◌}
use Prim.Native.Nat.{ℕ, zero, suc, ◌+◌, ◌*◌, ◌/◌, ◌%◌, ◌<◌}
use native.Mathlib.Omega.{arith}
use borrow.Author.Tests.{eq-eqb}
use lib.ListN.{length, get_or}
use Rattle.std.specs.Simd.{first_chunks}
use Rattle.tables.specs.Table.{at}
use Rattle.scanning.specs.Scanning.{is_hex_digit, run_length}
use Rattle.hexadecimal.specs.Hexadecimal.{digit_value, digit_code, is_pairs, decoded, encoded, HexadecimalMeans}
use Rattle.hexadecimal.proofs.Digits.{digit_value_small, code_reads}

-- each pair of digits stands for one byte
pub length_decoded : (digits : List ℕ) → length (decoded digits) ≡ length digits / 2
unfolding decoded
length_decoded [] = refl
length_decoded (high ∷ []) = refl
length_decoded (high ∷ low ∷ digits) = omega (arith, length_decoded digits)

-- each byte is written as two digits
pub length_encoded : (bytes : List ℕ) → length (encoded bytes) ≡ 2 * length bytes
unfolding encoded
length_encoded [] = refl
length_encoded (byte ∷ bytes) = omega (arith, length_encoded bytes)

-- what digits stand for is bytes
pub decoded_small : (digits : List ℕ) (i : ℕ) → at (decoded digits) i < 256
unfolding decoded
decoded_small [] i = omega arith
decoded_small (high ∷ []) i = omega arith
decoded_small (high ∷ low ∷ digits) zero = omega (arith, digit_value_small high, digit_value_small low)
decoded_small (high ∷ low ∷ digits) (suc i) = decoded_small digits i

-- the byte at i is that of the pair at i
pub byte_at : (count : ℕ) (digits : List ℕ) (i : ℕ) → count ≡ length digits / 2 → i < count
    → at (decoded digits) i
    ≡ 16 * digit_value (at (get_or (first_chunks 2 count digits) i []) 0) + digit_value (at (get_or (first_chunks 2 count digits) i []) 1)
unfolding decoded
byte_at zero digits i is less = absurd (omega arith)
byte_at (suc count) [] i is less = absurd (omega arith)
byte_at (suc count) (high ∷ []) i is less = absurd (omega arith)
byte_at (suc count) (high ∷ low ∷ digits) zero is less = refl
byte_at (suc count) (high ∷ low ∷ digits) (suc i) is less = byte_at count digits i (omega arith) (omega arith)

-- the digits of a byte are digits, and stand for it
byte_reads : (byte : ℕ) → byte < 256
    → (is_hex_digit (digit_code (byte / 16)) ≡ true) × (is_hex_digit (digit_code (byte % 16)) ≡ true)
    × (16 * digit_value (digit_code (byte / 16)) + digit_value (digit_code (byte % 16)) ≡ byte)
byte_reads byte small =
    let (high, first) = code_reads (byte / 16) (omega arith) in
    let (low, second) = code_reads (byte % 16) (omega arith) in
    (high, low, omega arith)

-- all that is written is digits
all_digits : (bytes : List ℕ) → ((i : ℕ) → at bytes i < 256) → run_length is_hex_digit (encoded bytes) ≡ length (encoded bytes)
unfolding run_length encoded
all_digits [] small = refl
all_digits (byte ∷ bytes) small =
    let (high, low, is) = byte_reads byte (small 0) in
    rw (high, low) (ap (λ (n : ℕ). suc (suc n)) (all_digits bytes (λ i. small (suc i))))

-- and in pairs
pairs : (bytes : List ℕ) → ((i : ℕ) → at bytes i < 256) → is_pairs (encoded bytes) ≡ true
pairs bytes small =
    rw (eq-eqb (length (encoded bytes) % 2) 0 (omega (arith, length_encoded bytes))) (eq-eqb _ _ (all_digits bytes small))

-- what is written is read as the bytes that it was written for
read_back : (bytes : List ℕ) → ((i : ℕ) → at bytes i < 256) → decoded (encoded bytes) ≡ bytes
unfolding decoded encoded
read_back [] small = refl
read_back (byte ∷ bytes) small = ap₂ ◌∷◌ (byte_reads byte (small 0)).2 (read_back bytes (λ i. small (suc i)))

pub hexadecimal_means : HexadecimalMeans
hexadecimal_means = record {
  pairs = pairs;
  twice = length_encoded;
  read_back = read_back;
  bytes = decoded_small;
  half = length_decoded;
}
