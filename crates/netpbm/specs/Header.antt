-- The header of a Netpbm P6 image (document 01, "Frames from a file"; document 02, "Comments in frames"): what reading it
-- answers, and how it is written.
use Rattle.std.specs.Prelude.{◌≡◌, Bool, true, false, ◌&&◌, ◌||◌, not, cond, List, [], ◌∷◌, ◌++◌, ℕ, suc, ◌+◌, ◌*◌, ◌≤◌, ◌<◌, leb, ltb, eqb, length, take, drop, Result, Ok, Err}
use Prim.Native.Char.{code}
use Rattle.refusal.specs.Numbers.{number_in}
use Rattle.refusal.specs.declared.Refusal.{Refusal}
use Rattle.refusal.specs.declared.Refusal.TheVariants.{HeaderMalformed, OtherLargestValue, AreaOutOfRange}
use Rattle.tables.specs.Table.{at}
use Rattle.text.specs.Decimal.{is_digit, value, decimal}
use Rattle.text.specs.Text.{ascii}
use Rattle.scanning.specs.Scanning.{is_space, starts_comment, ends_comment, run_length}
use Rattle.netpbm.specs.declared.Field.{Field}
use Rattle.netpbm.specs.declared.Header.{Header}

-- "The header may now have 512 bytes, comments included" (document 02, wish 2), "its last white-space byte included".
abbrev pub header_limit : ℕ
header_limit = 512

-- "Width times height is 1 to 16,384."
abbrev pub area_limit : ℕ
area_limit = 16384

-- What reading a header answers: what it says, or why it is refused.
abbrev pub Reading : Type 0
Reading = Result Header Refusal

abbrev pub Accepted : Header → Reading
Accepted header = Ok header

-- It is not of the right form, or ends early.
abbrev pub Malformed : Reading
Malformed = Err HeaderMalformed

-- Its largest sample value is not 255.
abbrev pub OtherLargest : Reading
OtherLargest = Err OtherLargestValue

-- Its width times height is 0 or above the limit.
abbrev pub OtherSize : Reading
OtherSize = Err AreaOutOfRange

-- What reading a field answers: its number and the place after it, or that the header is malformed.
abbrev pub FieldReading : Type 0
FieldReading = Result Field Refusal

abbrev pub Number : ℕ → ℕ → FieldReading
Number n end = Ok (record { number = n; end = end })

abbrev pub NoNumber : FieldReading
NoNumber = Err HeaderMalformed

-- How many bytes of white space the bytes begin with: "one or more of" what `is_space` has, and "from a # to the end of its line (LF or
-- CR) counts as white space" (document 02, wish 2). The first argument tells whether they begin within a comment, as no field does. A
-- comment that never ends reaches to the last byte.
unfoldable pub white_length : Bool → List ℕ → ℕ
white_length in_comment [] = 0
white_length true (b ∷ bytes) = suc (white_length (not (ends_comment b)) bytes)
white_length false (b ∷ bytes) =
    cond (is_space b) (suc (white_length false bytes))
    (cond (starts_comment b) (suc (white_length true bytes))
    0)

-- The field that begins at a place: white space, then a number. "A number has 1 to 5 decimal digits; leading zeros are allowed." The
-- answer has the number, and the place after it.
unfoldable pub field_at : List ℕ → ℕ → FieldReading
field_at bytes place =
    let white = white_length false (drop place bytes) in
    let first = place + white in
    let digits = run_length is_digit (drop first bytes) in
    cond (leb 1 white && leb 1 digits && leb digits 5) (Number (value (take digits (drop first bytes))) (first + digits)) NoNumber

-- What follows a number; where there is none, that refusal.
abbrev pub after_number : FieldReading → (ℕ → ℕ → Reading) → Reading
after_number (Ok field) next = next field.number field.end
after_number (Err refusal) next = Err refusal

-- The answer for a header of the right form, by its three numbers and the place where the samples start. 13: the largest sample value is
-- not 255. 14: width times height is 0 or above 16,384.
abbrev pub judged : ℕ → ℕ → ℕ → ℕ → Reading
judged width height largest start =
    cond (not (eqb largest 255)) OtherLargest
    (cond (eqb (width * height) 0 || ltb area_limit (width * height)) OtherSize
    (Accepted (record { width = width; height = height; start = start })))

-- "the letters P6". (Past the end `at` gives 0, which is no letter, and no white space either.)
abbrev pub has_letters : List ℕ → Bool
has_letters bytes = eqb (at bytes 0) (code "P") && eqb (at bytes 1) (code "6")

-- "Header: the letters P6; white space; width; white space; height; white space; the largest sample value; exactly one white-space byte;
-- then the samples."
unfoldable pub header_in : List ℕ → Reading
header_in bytes =
    cond (has_letters bytes)
    (after_number (field_at bytes 2) (λ width end₁.
    after_number (field_at bytes end₁) (λ height end₂.
    after_number (field_at bytes end₂) (λ largest end₃.
    cond (is_space (at bytes end₃)) (judged width height largest (end₃ + 1)) Malformed))))
    Malformed

-- What reading a file's header answers: a header that does not end within its limit is malformed.
abbrev pub header_of : List ℕ → Reading
header_of file = header_in (take header_limit file)

-- Document 01's number for each case: 0 for a header that is accepted, and 12, 13, 14. 12: the header is not as above or ends early.
abbrev pub number_of : Reading → ℕ
number_of reading = number_in reading

-- And document 01's values for each case: the width, the height, and where the samples start. A refused header has none: all are 0.
abbrev pub values_of : Reading → Header
values_of (Ok header) = header
values_of (Err refusal) = record { width = 0; height = 0; start = 0 }

-- "The written header is P6, LF, width, one space, height, LF, 255, LF, without leading zeros."
unfoldable pub header_text : ℕ → ℕ → List ℕ
header_text width height =
    ascii "P6\n" ++ decimal width ++ ascii " " ++ decimal height ++ ascii "\n255\n"

-- It has at most so many bytes: nine, and five digits for each side.
abbrev pub written_limit : ℕ
written_limit = 19

-- Claim: for every width times height of 1 to 16,384 it has at most that many. Proved: proofs/Written.antt, `written_headers_fit`.
abbrev pub WrittenHeadersFit : Type 0
WrittenHeadersFit =
    (width height : ℕ) → 0 < width * height → width * height ≤ area_limit → length (header_text width height) ≤ written_limit

-- What an accepted header keeps, in a file of this size: its samples start within the file and no later than a header may end, and
-- "width times height is 1 to 16,384".
pub record HeaderFits (header : Header) (size : ℕ) : Type 0 where
  pub starts : header.start ≤ size
  pub short : header.start ≤ header_limit
  pub some : 0 < header.width * header.height
  pub most : header.width * header.height ≤ area_limit

-- Claim: every accepted header keeps it. Proved: proofs/Accepted.antt, `accepted_headers_fit`.
abbrev pub AcceptedHeadersFit : Type 0
AcceptedHeadersFit = (file : List ℕ) (header : Header) → header_of file ≡ Accepted header → HeaderFits header (length file)
