-- A field as text: where its text stands `field_at` answers its number, and where `field_at` answers a number such a text stands.
use mathlib.Core.Path.{◌≡◌, sym, ap, ap₂, ◌∙◌}
use mathlib.Core.Bool.{false}
use mathlib.Core.List.{List, ◌++◌, append_assoc}
use Prim.Native.Nat.{ℕ, ◌+◌}
use native.Mathlib.Omega.{arith}
use lib.ListN.{length, take, drop, length-append, take-append-drop}
use lib.Seq.{take-append_seam, drop-append_seam, drop-drop}
use Rattle.text.specs.Decimal.{is_digit, value}
use Rattle.scanning.specs.Scanning.{run_length}
use Rattle.netpbm.specs.Header.{white_length, field_at, after_number, Reading, Malformed, FieldReading, Number}
use Rattle.netpbm.specs.Grammar.{WhiteSpace, Numeral}
use Rattle.scanning.proofs.Runs.{run_append}
use Rattle.netpbm.proofs.WhiteTexts.{white_read, white_some, numeral_stops}
use Rattle.netpbm.proofs.Fields.{white_at, first_at, digits_at, end_at, gap_at, numeral_at, field_number, field_either, length_gap, gap_white, length_numeral, numeral_digits}

-- The bytes are a front, a field of white space and a numeral, and the rest.
pub record FieldText (bytes front gap digits rest : List ℕ) : Type 0 where
  pub white : WhiteSpace gap
  pub numeral : Numeral digits
  pub split : bytes ≡ front ++ gap ++ digits ++ rest

-- the field ends where its text does
field_end : (bytes front gap digits : List ℕ) → white_at bytes (length front) ≡ length gap → digits_at bytes (length front) ≡ length digits
    → end_at bytes (length front) ≡ length (front ++ gap ++ digits)
field_end bytes front gap digits white count = omega (arith, length-append (front ++ gap) digits, length-append front gap)

-- The text of a field, with no digit after it, is read.
module _ {bytes front gap digits rest : List ℕ} (text : FieldText bytes front gap digits rest) (stops : run_length is_digit rest ≡ 0) where
  abbrev start : ℕ
  start = length front

  after_front : drop start bytes ≡ gap ++ (digits ++ rest)
  after_front = ap (drop start) (text.split ∙ simp append_assoc) ∙ drop-append_seam front (gap ++ (digits ++ rest))

  white_are : white_at bytes start ≡ length gap
  white_are =
      ap (white_length false) after_front
      ∙ omega (arith, white_read text.white (digits ++ rest), numeral_stops text.numeral rest)

  pub gap_is : gap_at bytes start ≡ gap
  gap_is = ap₂ take white_are after_front ∙ take-append_seam gap (digits ++ rest)

  after_gap : drop (first_at bytes start) bytes ≡ digits ++ rest
  after_gap =
      sym (drop-drop (white_at bytes start) start bytes) ∙ ap₂ drop white_are after_front ∙ drop-append_seam gap (digits ++ rest)

  digits_are : digits_at bytes start ≡ length digits
  digits_are = ap (run_length is_digit) after_gap ∙ omega (arith, run_append is_digit digits rest text.numeral.digits, stops)

  pub numeral_is : numeral_at bytes start ≡ digits
  numeral_is = ap₂ take digits_are after_gap ∙ take-append_seam digits rest

  pub field_complete : field_at bytes start ≡ Number (value digits) (length (front ++ gap ++ digits))
  field_complete =
      field_number bytes start
      (omega (arith, white_are, white_some text.white))
      (omega (arith, digits_are, text.numeral.some))
      (omega (arith, digits_are, text.numeral.most))
      ∙ ap₂ Number (ap value numeral_is) (field_end bytes front gap digits white_are digits_are)

-- Two texts of a field after the same front are one.
pub same_field : {bytes front₁ gap₁ digits₁ rest₁ front₂ gap₂ digits₂ rest₂ : List ℕ}
    → FieldText bytes front₁ gap₁ digits₁ rest₁ → run_length is_digit rest₁ ≡ 0
    → FieldText bytes front₂ gap₂ digits₂ rest₂ → run_length is_digit rest₂ ≡ 0
    → front₁ ≡ front₂ → (gap₁ ≡ gap₂) × (digits₁ ≡ digits₂)
same_field {bytes} text₁ stops₁ text₂ stops₂ e = (
  sym (gap_is text₁ stops₁) ∙ ap (λ (f : List ℕ). gap_at bytes (length f)) e ∙ gap_is text₂ stops₂,
  sym (numeral_is text₁ stops₁) ∙ ap (λ (f : List ℕ). numeral_at bytes (length f)) e ∙ numeral_is text₂ stops₂,
)

-- The field after a front was read, and what comes next is not malformed.
pub record FieldRead (bytes front : List ℕ) (next : ℕ → ℕ → Reading) : Type 0 where
  pub gap : List ℕ
  pub digits : List ℕ
  pub text : FieldText bytes front gap digits (drop (length (front ++ gap ++ digits)) bytes)
  pub not_malformed : next (value digits) (length (front ++ gap ++ digits)) ≡ Malformed → ⊥

-- the front, and the field
abbrev pub read_to : {bytes front : List ℕ} {next : ℕ → ℕ → Reading} → FieldRead bytes front next → List ℕ
read_to {front = front} field = front ++ field.gap ++ field.digits

-- the front grows by the next n bytes
front_more : (bytes front : List ℕ) (place n : ℕ) → bytes ≡ front ++ drop place bytes
    → bytes ≡ front ++ take n (drop place bytes) ++ drop (place + n) bytes
front_more bytes front place n split =
    let part = take n (drop place bytes) in
    split
    ∙ ap (λ (l : List ℕ). front ++ l) (sym (take-append-drop n (drop place bytes)) ∙ ap (λ (l : List ℕ). part ++ l) (drop-drop n place bytes))
    ∙ sym (append_assoc front part (drop (place + n) bytes))

-- Where a front stands, a field that is read has its text.
module _ (bytes front : List ℕ) (begins : bytes ≡ front ++ drop (length front) bytes) where
  abbrev place : ℕ
  place = length front

  abbrev gap_here : List ℕ
  gap_here = gap_at bytes place

  end_is : end_at bytes place ≡ length (front ++ gap_here ++ numeral_at bytes place)
  end_is = field_end bytes front gap_here (numeral_at bytes place) (sym (length_gap bytes place)) (sym (length_numeral bytes place))

  field_split : bytes ≡ front ++ gap_here ++ numeral_at bytes place ++ drop (length (front ++ gap_here ++ numeral_at bytes place)) bytes
  field_split =
      front_more bytes (front ++ gap_here) (first_at bytes place) (digits_at bytes place)
      (front_more bytes front place (white_at bytes place) begins)
      ∙ ap (λ (n : ℕ). front ++ gap_here ++ numeral_at bytes place ++ drop n bytes) end_is

  pub field_sound : (next : ℕ → ℕ → Reading) → (after_number (field_at bytes place) next ≡ Malformed → ⊥) → FieldRead bytes front next
  field_sound next not_malformed =
      field_either bytes place
      (λ white some most. record {
        gap = gap_here;
        digits = numeral_at bytes place;
        text = record {
          white = gap_white bytes place white some;
          numeral = record {
            some = omega (arith, length_numeral bytes place);
            most = omega (arith, length_numeral bytes place);
            digits = numeral_digits bytes place;
          };
          split = field_split;
        };
        not_malformed = λ malformed. not_malformed (
            ap (λ (field : FieldReading). after_number field next) (field_number bytes place white some most)
            ∙ ap (next (value (numeral_at bytes place))) end_is
            ∙ malformed
            );
      })
      (λ none. absurd (not_malformed (ap (λ (field : FieldReading). after_number field next) none)))
