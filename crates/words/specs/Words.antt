-- The words of a line of a script.
use Rattle.std.specs.Prelude.{◌≡◌, Bool, true, ◌&&◌, ◌||◌, cond, List, ℕ, ◌+◌, ◌-◌, ◌^◌, ◌≤◌, leb, ltb, eqb, length, take, drop, Option, Some, None, is_none, Result, Ok, Err, ok_or}
use Rattle.text.specs.Decimal.{is_digit, value}
use Rattle.text.specs.Text.{ascii}
use Rattle.scanning.specs.Scanning.{in_class, run_length, same_bytes}
use Rattle.scanning.specs.declared.Class.TheVariants.{Space, Word as WordByte}
use Rattle.hexadecimal.specs.Hexadecimal.{is_pairs}
use Rattle.words.specs.declared.Word.{Word}
use Rattle.words.specs.declared.Found.{Found}
use Rattle.words.specs.declared.Fault.{Fault}
use Rattle.words.specs.declared.Fault.TheVariants.{TooFewWords, TooManyWords, NotANumber, NoSuchShot, NotPairs, NotAPixel}

-- What follows goes on with the value. After a fault nothing is read: the first fault of a line is the one that is named.
infixl 10 ◌>>=◌
abbrev pub ◌>>=◌ : {A B : Type 0} → Result A Fault → (A → Result B Fault) → Result B Fault
Ok value >>= next = next value
Err fault >>= next = Err fault

-- The same, where there is no value to go on with.
infixl 10 ◌>>◌
abbrev pub ◌>>◌ : {A B : Type 0} → Result A Fault → Result B Fault → Result B Fault
looked >> next = looked >>= (λ value. next)

-- The value if so, else the fault.
abbrev pub good_if : {A : Type 0} → Bool → Fault → A → Result A Fault
good_if so fault value = cond so (Ok value) (Err fault)

-- The word that follows a place: past white space, up to the next. It has at least one byte; `None` where no word is left.
unfoldable pub word_at : List ℕ → ℕ → Option Word
word_at line place =
    let start = place + run_length (in_class Space) (drop place line) in
    let end = start + run_length (in_class WordByte) (drop start line) in
    cond (eqb start end) None (Some (record { start = start; end = end }))

-- The word's place lies within the line.
pub record Within (word : Word) (line : List ℕ) : Type 0 where
  pub order : word.start ≤ word.end
  pub ends : word.end ≤ length line

-- The bytes of a word.
abbrev pub word_in : List ℕ → Word → List ℕ
word_in line word = take (word.end - word.start) (drop word.start line)

-- The word that has to follow a place.
unfoldable pub word_due : List ℕ → ℕ → Result Word Fault
word_due line place = ok_or (word_at line place) TooFewWords

-- A number is 1 to 10 decimal digits that stand for less than 2^32. Leading zeros are allowed.
unfoldable pub number_of : List ℕ → Option ℕ
number_of word =
    cond (leb 1 (length word) && leb (length word) 10 && eqb (run_length is_digit word) (length word) && ltb (value word) (2 ^ 32))
    (Some (value word))
    None

-- NUMBER: the number that follows a place.
unfoldable pub number_at : List ℕ → ℕ → Result (Found ℕ) Fault
number_at line place = do
  word ← word_due line place
  number ← ok_or (number_of (word_in line word)) NotANumber
  Ok (record { value = number; end = word.end })

-- A shot has a number from 1 to 4.
abbrev pub is_shot : ℕ → Bool
is_shot number = leb 1 number && leb number 4

-- SHOT: the shot's number that follows a place.
unfoldable pub shot_at : List ℕ → ℕ → Result (Found ℕ) Fault
shot_at line place = do
  shot ← number_at line place
  good_if (is_shot shot.value) NoSuchShot shot

-- A strip is pairs of hexadecimal digits, or - where it is empty.
abbrev pub is_strip : List ℕ → Bool
is_strip word = same_bytes word (ascii "-") || is_pairs word

-- STRIP: the strip that follows a place.
unfoldable pub strip_at : List ℕ → ℕ → Result Word Fault
strip_at line place = do
  word ← word_due line place
  good_if (is_strip (word_in line word)) NotPairs word

-- A pixel is six hexadecimal digits.
abbrev pub is_pixel : List ℕ → Bool
is_pixel word = eqb (length word) 6 && is_pairs word

-- PIXEL: the pixel that follows a place.
unfoldable pub pixel_at : List ℕ → ℕ → Result Word Fault
pixel_at line place = do
  word ← word_due line place
  good_if (is_pixel (word_in line word)) NotAPixel word

-- No word is left after a place.
unfoldable pub end_at : List ℕ → ℕ → Result (Unit {0}) Fault
end_at line place = good_if (is_none (word_at line place)) TooManyWords tt

-- What a call brings as bytes: a word within the line, and of the form that is due.
pub record HasDigits (is_due : List ℕ → Bool) (line : List ℕ) (word : Word) : Type 0 where
  pub within : Within word line
  pub form : is_due (word_in line word) ≡ true
