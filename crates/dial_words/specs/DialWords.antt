-- The dial among the words of a line of a script: off, mix and a float, or hold and a float.
use Rattle.std.specs.Prelude.{◌≡◌, ◌&&◌, cond, List, [], ◌∷◌, ℕ, ◌+◌, ◌*◌, ◌/◌, ◌%◌, ◌^◌, ◌<◌, T, eqb, Float, length, Option, Some, None, Result, Ok, ok_or}
use Rattle.std.specs.Float.{binary32, nan}
use Rattle.std.specs.Float.Ieee.{fits, of_bits, to_bits}
use Rattle.tables.specs.Table.{at}
use Rattle.text.specs.Text.{ascii}
use Rattle.scanning.specs.Scanning.{same_bytes}
use Rattle.hexadecimal.specs.Hexadecimal.{is_pairs, decoded, encoded}
use Rattle.dial.specs.declared.Dial.{Dial}
use Rattle.dial.specs.declared.Dial.TheVariants.{Off, Mix, Hold}
use Rattle.words.specs.Words.{◌>>=◌, word_in, word_due}
use Rattle.words.specs.declared.Found.{Found}
use Rattle.words.specs.declared.Fault.{Fault}
use Rattle.words.specs.declared.Fault.TheVariants.{NoSuchDial, NotAFloat}
use Rattle.dial_words.specs.declared.DialCommand.{DialCommand}
use Rattle.dial_words.specs.declared.DialCommand.TheVariants.{Off as IsOff, Mix as IsMix, Hold as IsHold}

-- The number that four bytes stand for, the most significant first.
abbrev pub pattern_of : List ℕ → ℕ
pattern_of bytes = 2 ^ 24 * at bytes 0 + 2 ^ 16 * at bytes 1 + 2 ^ 8 * at bytes 2 + at bytes 3

-- A float is eight hexadecimal digits, its bits with the most significant first, or nan. Every pattern of NaN stands for NaN.
unfoldable pub float_of : List ℕ → Option Float
float_of word =
    cond (same_bytes word (ascii "nan")) (Some nan)
    (cond (eqb (length word) 8 && is_pairs word) (Some (of_bits binary32 (pattern_of (decoded word)))) None)

-- FLOAT: the float that follows a place.
unfoldable pub float_at : List ℕ → ℕ → Result (Found Float) Fault
float_at line place = do
  word ← word_due line place
  value ← ok_or (float_of (word_in line word)) NotAFloat
  Ok (record { value = value; end = word.end })

-- The command that a word names.
unfoldable pub command_of : List ℕ → Option DialCommand
command_of word =
    cond (same_bytes word (ascii "off")) (Some IsOff)
    (cond (same_bytes word (ascii "mix")) (Some IsMix) (cond (same_bytes word (ascii "hold")) (Some IsHold) None))

-- What follows the command of a dial: nothing, the amount, or the intensity.
abbrev pub command_at : DialCommand → List ℕ → ℕ → Result (Found Dial) Fault
command_at IsOff line place = Ok (record { value = Off; end = place })
command_at IsMix line place = do
  amount ← float_at line place
  Ok (record { value = Mix amount.value; end = amount.end })
command_at IsHold line place = do
  intensity ← float_at line place
  Ok (record { value = Hold intensity.value; end = intensity.end })

-- DIAL: the dial that follows a place.
unfoldable pub dial_at : List ℕ → ℕ → Result (Found Dial) Fault
dial_at line place = do
  word ← word_due line place
  command ← ok_or (command_of (word_in line word)) NoSuchDial
  command_at command line word.end

-- The bytes of a pattern, the most significant first.
abbrev pub pattern_bytes : ℕ → List ℕ
pattern_bytes n = n / 2 ^ 24 ∷ n / 2 ^ 16 % 256 ∷ n / 2 ^ 8 % 256 ∷ n % 256 ∷ []

-- Claim: every pattern of 32 bits can be written, and so every float. Proved: proofs/Patterns.antt, `floats_are_written`.
pub record FloatsAreWritten : Type 0 where
  pub patterns : (n : ℕ) → n < 2 ^ 32 → float_of (encoded (pattern_bytes n)) ≡ Some (of_bits binary32 n)
  pub floats : (x : Float) → T (fits binary32 x) → float_of (encoded (pattern_bytes (to_bits binary32 x))) ≡ Some x
