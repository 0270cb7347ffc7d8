-- Laws of a header's fields, each white space and then a number.
use mathlib.Core.Path.{◌≡◌, refl, sym, ap, ap₂, ◌∙◌}
use mathlib.Core.Bool.{true, false, ◌&&◌, cond}
use mathlib.Core.List.{List}
use Prim.Native.Nat.{ℕ, ◌+◌, ◌-◌, ◌^◌, ◌≤◌, ◌<◌}
use native.Mathlib.Nat.{pow-le-pow_right}
use native.Mathlib.Omega.{arith}
use borrow.Author.Tests.{leb-true, le-leb}
use borrow.Table.Steps.{cases}
use lib.Dec.{leb}
use lib.ListN.{length, take, drop, length-drop}
use lib.Seq.{length-take-le}
use Rattle.tables.specs.Table.{at}
use Rattle.std.proofs.lemmas.Bool.{and_parts}
use Rattle.text.specs.Decimal.{is_digit, Digits, value}
use Rattle.text.proofs.Decimal.{value_below}
use Rattle.scanning.specs.Scanning.{is_space, run_length}
use Rattle.netpbm.specs.Header.{white_length, field_at, judged, has_letters, header_in, Malformed, Number, NoNumber}
use Rattle.netpbm.specs.Grammar.{WhiteSpace}
use Rattle.netpbm.proofs.WhiteSpace.{white_within}
use Rattle.netpbm.proofs.WhiteTexts.{white_found}
use Rattle.scanning.proofs.Runs.{run_within, length_run, run_all}

-- with the letters and three fields found, the byte after them decides
pub last_decides : (bytes : List ℕ) (width height largest end₁ end₂ end₃ : ℕ) → has_letters bytes ≡ true
    → field_at bytes 2 ≡ Number width end₁
    → field_at bytes end₁ ≡ Number height end₂
    → field_at bytes end₂ ≡ Number largest end₃
    → header_in bytes ≡ cond (is_space (at bytes end₃)) (judged width height largest (end₃ + 1)) Malformed
unfolding header_in
last_decides bytes width height largest end₁ end₂ end₃ letters first second third = rw (letters, first, second, third) refl

-- What a scan found from a place passes every test of a field: the place where the digits begin, and the one where they end.
pub record Scanned (bytes : List ℕ) (place first end : ℕ) : Type 0 where
  pub within : end ≤ length bytes
  pub few : length (take (end - first) (drop first bytes)) ≤ 5
  pub digits : Digits (take (end - first) (drop first bytes))
  pub small : value (take (end - first) (drop first bytes)) < 2 ^ 32
  pub field : field_at bytes place ≡ Number (value (take (end - first) (drop first bytes))) end

-- The field that begins at a place.
module _ (bytes : List ℕ) (place : ℕ) where
  -- how much white space stands there, and where its digits begin
  abbrev pub white_at : ℕ
  white_at = white_length false (drop place bytes)

  abbrev pub first_at : ℕ
  first_at = place + white_at

  -- how many digits those are, and where they end
  abbrev pub digits_at : ℕ
  digits_at = run_length is_digit (drop first_at bytes)

  abbrev pub end_at : ℕ
  end_at = first_at + digits_at

  -- the white space, and the digits
  abbrev pub gap_at : List ℕ
  gap_at = take white_at (drop place bytes)

  abbrev pub numeral_at : List ℕ
  numeral_at = take digits_at (drop first_at bytes)

  pub field_number : 0 < white_at → 0 < digits_at → digits_at ≤ 5 → field_at bytes place ≡ Number (value numeral_at) end_at
  unfolding field_at
  field_number white some most = simp (le-leb 1 white_at white, le-leb 1 digits_at some, le-leb digits_at 5 most)

  -- there is a number, with its white space and digits, or none
  pub field_either : {P : Type 0} → (0 < white_at → 0 < digits_at → digits_at ≤ 5 → P) → (field_at bytes place ≡ NoNumber → P) → P
  unfolding field_at
  field_either number none =
      cases (leb 1 white_at && leb 1 digits_at && leb digits_at 5)
      (λ e.
      let (front, most) = and_parts (leb 1 white_at && leb 1 digits_at) (leb digits_at 5) e in
      let (white, some) = and_parts (leb 1 white_at) (leb 1 digits_at) front in
      number (leb-true 1 _ white) (leb-true 1 _ some) (leb-true _ 5 most))
      (λ e. none (rw e refl))

  pub field_none : (0 < white_at → 0 < digits_at → digits_at ≤ 5 → ⊥) → field_at bytes place ≡ NoNumber
  field_none never = field_either (λ white some most. absurd (never white some most)) (λ none. none)

  pub length_gap : length gap_at ≡ white_at
  length_gap = length-take-le white_at (drop place bytes) (white_within false (drop place bytes))

  -- with a digit after it, what stands there is white space
  pub gap_white : 0 < white_at → 0 < digits_at → WhiteSpace gap_at
  gap_white white some =
      white_found (drop place bytes) white
      (omega (arith, some, run_within is_digit (drop first_at bytes), length-drop first_at bytes, length-drop place bytes))

  pub length_numeral : length numeral_at ≡ digits_at
  length_numeral = length_run is_digit (drop first_at bytes)

  pub numeral_digits : Digits numeral_at
  numeral_digits = run_all is_digit (drop first_at bytes)

  -- What a scan finds: where the digits begin, and where they end.
  module _ (first end : ℕ) (is_first : first ≡ first_at) (is_end : end ≡ first + run_length is_digit (drop first bytes)) where
    pub scan_end : end ≡ end_at
    scan_end = is_end ∙ ap (λ (n : ℕ). n + run_length is_digit (drop n bytes)) is_first

    pub scanned : (first ≡ place → ⊥) → (end ≡ first → ⊥) → end - first ≤ 5 → Scanned bytes place first end
    scanned spaced some most =
        let count : end - first ≡ digits_at = omega (arith, scan_end) in
        let numeral : take (end - first) (drop first bytes) ≡ numeral_at = ap₂ (λ (n p : ℕ). take n (drop p bytes)) count is_first in
        record {
          within = omega (arith, scan_end, run_within is_digit (drop first_at bytes), length-drop first_at bytes);
          few = rw numeral (omega (arith, length_numeral));
          digits = rw numeral numeral_digits;
          small = rw numeral (
              omega (
                arith,
                value_below numeral_at numeral_digits,
                pow-le-pow_right {n = 10} (omega arith) {i = length numeral_at} {j = 5} (omega (arith, length_numeral)),
              )
              );
          field =
              field_number (omega (arith, scan_end)) (omega (arith, scan_end)) (omega (arith, scan_end))
              ∙ ap₂ Number (ap value (sym numeral)) (sym scan_end);
        }
