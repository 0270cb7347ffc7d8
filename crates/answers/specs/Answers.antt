-- The text of what the program `replay` answers.
use Rattle.std.specs.Prelude.{List, [], ◌∷◌, ◌++◌, ℕ, ◌+◌, ◌≤◌}
use Rattle.text.specs.Decimal.{decimal}
use Rattle.text.specs.Text.{ascii, Writes}
use Rattle.hexadecimal.specs.Hexadecimal.{encoded}
use Rattle.script.specs.Script.{line_limit}
use Rattle.words.specs.declared.Fault.{Fault}
use Rattle.words.specs.declared.Fault.TheVariants.{TooLong, NoSuchCall, TooFewWords, TooManyWords, NotANumber, NoSuchShot, NotPairs, NotAPixel, NoSuchDial, NotAFloat}

-- The answer of open, measure and fix: the number.
abbrev pub number_text : ℕ → List ℕ
number_text number = decimal number ++ ascii "\n"

-- Bytes in a script: hexadecimal digits, or - for none.
abbrev pub strip_text : List ℕ → List ℕ
strip_text [] = ascii "-"
strip_text (byte ∷ bytes) = encoded (byte ∷ bytes)

-- The answer of colour and of a single move: the number, and the bytes that the call leaves.
abbrev pub bytes_text : ℕ → List ℕ → List ℕ
bytes_text number bytes = decimal number ++ ascii " " ++ strip_text bytes ++ ascii "\n"

-- Why a line is no call.
abbrev pub reason_text : Fault → List ℕ
reason_text TooLong = ascii "longer than 65536 bytes"
reason_text NoSuchCall = ascii "no such call"
reason_text TooFewWords = ascii "too few words"
reason_text TooManyWords = ascii "too many words"
reason_text NotANumber = ascii "not a number from 0 to 4294967295"
reason_text NoSuchShot = ascii "no such shot"
reason_text NotPairs = ascii "not pairs of hexadecimal digits"
reason_text NotAPixel = ascii "not six hexadecimal digits"
reason_text NoSuchDial = ascii "no such dial command: off, mix or hold"
reason_text NotAFloat = ascii "not a float's bits: eight hexadecimal digits, or nan"

-- The answer to a line that is no call, by its number.
unfoldable pub fault_text : Fault → ℕ → List ℕ
fault_text fault number = ascii "line " ++ decimal number ++ ascii " is no call: " ++ reason_text fault ++ ascii "\n"

-- The most bytes that an answer has in digits: a line has two digits for each.
abbrev pub byte_limit : ℕ
byte_limit = 32768

-- An output of so many bytes has room for every answer.
abbrev pub text_limit : ℕ
text_limit = line_limit + 64

-- What a function that writes an answer promises: the text stands at the start of the output, and is not longer than that.
pub record WritesAnswer (text before : List ℕ) (size : ℕ) (after : List ℕ) : Type 0 where
  pub writes : Writes 0 text before size after
  pub short : size ≤ text_limit
