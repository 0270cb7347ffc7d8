-- Bytes of one class that stand one after the other.
use Rattle.std.specs.Prelude.{◌≡◌, Bool, true, false, ◌&&◌, ◌||◌, not, cond, List, [], ◌∷◌, ℕ, suc, ◌-◌, leb, eqb}
use Prim.Native.Char.{code}
use Rattle.text.specs.Decimal.{is_digit}
use Rattle.scanning.specs.declared.Class.{Class}
use Rattle.scanning.specs.declared.Class.TheVariants.{Space, Digit, HexDigit, Word, Uncommented, Comment, Line}

-- "space, tab, LF, VT, FF, CR" (document 01, "Frames from a file")
abbrev pub is_space : ℕ → Bool
is_space b = eqb b 32 || eqb b 9 || eqb b 10 || eqb b 11 || eqb b 12 || eqb b 13

-- Whether a byte is one of six letters, this one and the next five.
abbrev pub is_letter_from : ℕ → ℕ → Bool
is_letter_from first b = leb first b && leb (b - first) 5

-- Whether a byte is a hexadecimal digit: 0 to 9, a to f, A to F.
abbrev pub is_hex_digit : ℕ → Bool
is_hex_digit b = is_digit b || is_letter_from (code "a") b || is_letter_from (code "A") b

-- A comment begins with #.
abbrev pub starts_comment : ℕ → Bool
starts_comment b = eqb b (code "#")

-- A header's comment ends with its line: "from a # to the end of its line (LF or CR)" (document 02, wish 2).
abbrev pub ends_comment : ℕ → Bool
ends_comment b = eqb b 10 || eqb b 13

-- Whether a byte is of a class. A word is made of all but white space, what stands before a comment of all but #, what stands in a
-- header's comment of all but LF and CR, and a line of all but LF.
abbrev pub in_class : Class → ℕ → Bool
in_class Space b = is_space b
in_class Digit b = is_digit b
in_class HexDigit b = is_hex_digit b
in_class Word b = not (is_space b)
in_class Uncommented b = not (starts_comment b)
in_class Comment b = not (ends_comment b)
in_class Line b = not (eqb b 10)

-- How many bytes pass the test before the first that does not.
unfoldable pub run_length : (ℕ → Bool) → List ℕ → ℕ
run_length test [] = 0
run_length test (b ∷ bytes) = cond (test b) (suc (run_length test bytes)) 0

-- Whether two texts are the same.
unfoldable pub same_bytes : List ℕ → List ℕ → Bool
same_bytes [] [] = true
same_bytes [] (y ∷ ys) = false
same_bytes (x ∷ xs) [] = false
same_bytes (x ∷ xs) (y ∷ ys) = eqb x y && same_bytes xs ys

-- Claim: they are exactly if they are equal. Proved: proofs/Texts.antt, `same_means_equal`.
pub record SameMeansEqual : Type 0 where
  pub sound : (a b : List ℕ) → same_bytes a b ≡ true → a ≡ b
  pub complete : (a : List ℕ) → same_bytes a a ≡ true
