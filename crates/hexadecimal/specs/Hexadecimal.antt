-- Bytes as hexadecimal digits in ASCII, two to a byte, the high one first.
use Rattle.std.specs.Prelude.{◌≡◌, Bool, true, ◌&&◌, cond, List, [], ◌∷◌, ℕ, ◌+◌, ◌-◌, ◌*◌, ◌/◌, ◌%◌, ◌<◌, ltb, eqb, length}
use Prim.Native.Char.{code}
use Rattle.tables.specs.Table.{at}
use Rattle.text.specs.Decimal.{zero_code, is_digit}
use Rattle.scanning.specs.Scanning.{is_letter_from, is_hex_digit, run_length}

-- The number that a digit stands for; 0 for a byte that is none.
unfoldable pub digit_value : ℕ → ℕ
digit_value b =
    cond (is_digit b) (b - zero_code)
    (cond (is_letter_from (code "a") b) (b - code "a" + 10)
    (cond (is_letter_from (code "A") b) (b - code "A" + 10) 0))

-- The digit that stands for a number below sixteen.
abbrev pub digit_code : ℕ → ℕ
digit_code d = cond (ltb d 10) (zero_code + d) (code "a" + (d - 10))

-- Whether a text is pairs of hexadecimal digits.
abbrev pub is_pairs : List ℕ → Bool
is_pairs text = eqb (length text % 2) 0 && eqb (run_length is_hex_digit text) (length text)

-- The bytes that pairs of digits stand for; a digit without a second stands for none.
unfoldable pub decoded : List ℕ → List ℕ
decoded [] = []
decoded (high ∷ []) = []
decoded (high ∷ low ∷ digits) = (16 * digit_value high + digit_value low) ∷ decoded digits

-- Bytes as digits.
unfoldable pub encoded : List ℕ → List ℕ
encoded [] = []
encoded (byte ∷ bytes) = digit_code (byte / 16) ∷ digit_code (byte % 16) ∷ encoded bytes

-- Claim: what is written is pairs of digits, twice as many as bytes, and is read as those bytes; and what is read is bytes, one to a
-- pair. Proved: proofs/Hexadecimal.antt, `hexadecimal_means`.
pub record HexadecimalMeans : Type 0 where
  pub pairs : (bytes : List ℕ) → ((i : ℕ) → at bytes i < 256) → is_pairs (encoded bytes) ≡ true
  pub twice : (bytes : List ℕ) → length (encoded bytes) ≡ 2 * length bytes
  pub read_back : (bytes : List ℕ) → ((i : ℕ) → at bytes i < 256) → decoded (encoded bytes) ≡ bytes
  pub bytes : (digits : List ℕ) (i : ℕ) → at (decoded digits) i < 256
  pub half : (digits : List ℕ) → length (decoded digits) ≡ length digits / 2
