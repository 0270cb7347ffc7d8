-- The same header as a grammar, apart from any way of reading it.
use Rattle.std.specs.Prelude.{◌≡◌, true, false, List, [], ◌∷◌, ◌++◌, ℕ, ◌*◌, ◌≤◌, ◌<◌, length}
use Rattle.tables.specs.Table.{at}
use Rattle.text.specs.Decimal.{Digits, value}
use Rattle.text.specs.Text.{ascii}
use Rattle.scanning.specs.Scanning.{is_space, starts_comment, ends_comment}
use Rattle.netpbm.specs.Header.{header_limit, area_limit, Accepted, Malformed, judged, header_of, header_text}

-- The parts of a header after its letters, in their order.
pub record Parts : Type 0 where
  pub before_width : List ℕ
  pub width : List ℕ
  pub before_height : List ℕ
  pub height : List ℕ
  pub before_largest : List ℕ
  pub largest : List ℕ
  pub last : ℕ

-- "the letters P6; white space; width; white space; height; white space; the largest sample value; exactly one white-space byte"
abbrev pub text_of : Parts → List ℕ
text_of p =
    ascii "P6"
    ++ p.before_width
    ++ p.width
    ++ p.before_height
    ++ p.height
    ++ p.before_largest
    ++ p.largest
    ++ (p.last ∷ [])

-- "From a # to the end of its line (LF or CR)", which belongs to it: a #, bytes that are neither LF nor CR, and one that is.
pub record Comment (bytes : List ℕ) : Type 0 where
  pub first : ℕ
  pub text : List ℕ
  pub last : ℕ
  pub starts : starts_comment first ≡ true
  pub inside : (i : ℕ) → i < length text → ends_comment (at text i) ≡ false
  pub ends : ends_comment last ≡ true
  pub split : bytes ≡ first ∷ (text ++ (last ∷ []))

-- "space, tab, LF, VT, FF, CR", and a comment "counts as white space".
pub data Piece : List ℕ → Type 0 where
  space : {b : ℕ} → is_space b ≡ true → Piece (b ∷ [])
  comment : {bytes : List ℕ} → Comment bytes → Piece bytes

-- "White space is one or more of" these.
pub data WhiteSpace : List ℕ → Type 0 where
  one : {piece : List ℕ} → Piece piece → WhiteSpace piece
  more : {piece rest : List ℕ} → Piece piece → WhiteSpace rest → WhiteSpace (piece ++ rest)

-- "A number has 1 to 5 decimal digits; leading zeros are allowed."
pub record Numeral (bytes : List ℕ) : Type 0 where
  pub some : 0 < length bytes
  pub most : length bytes ≤ 5
  pub digits : Digits bytes

-- The parts make a header.
pub record IsHeader (p : Parts) : Type 0 where
  pub before_width : WhiteSpace p.before_width
  pub width : Numeral p.width
  pub before_height : WhiteSpace p.before_height
  pub height : Numeral p.height
  pub before_largest : WhiteSpace p.before_largest
  pub largest : Numeral p.largest
  pub last : is_space p.last ≡ true
  pub limit : length (text_of p) ≤ header_limit

-- The file begins with a header.
pub record HasHeader (file : List ℕ) : Type 0 where
  pub parts : Parts
  pub is_header : IsHeader parts
  pub samples : List ℕ
  pub split : file ≡ text_of parts ++ samples

-- Claim: a header is read as what its parts say, whatever follows it; every file that does not begin with one is malformed; and a file
-- begins with one in one way only. Proved: proofs/Grammar.antt, `reading_is_the_grammar`.
pub record ReadingIsTheGrammar : Type 0 where
  pub complete : (p : Parts) → IsHeader p → (samples : List ℕ)
      → header_of (text_of p ++ samples) ≡ judged (value p.width) (value p.height) (value p.largest) (length (text_of p))
  pub sound : (file : List ℕ) → (header_of file ≡ Malformed → ⊥) → HasHeader file
  pub unique : (p q : Parts) → IsHeader p → IsHeader q → (samples others : List ℕ) → text_of p ++ samples ≡ text_of q ++ others → p ≡ q

-- Claim: reading what was written gives the same picture back. Proved: proofs/Grammar.antt, `written_is_read`.
abbrev pub WrittenIsRead : Type 0
WrittenIsRead =
    (width height : ℕ) → 0 < width * height → width * height ≤ area_limit → (samples : List ℕ)
    → header_of (header_text width height ++ samples)
    ≡ Accepted (record { width = width; height = height; start = length (header_text width height) })
