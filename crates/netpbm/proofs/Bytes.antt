-- Bytes of a header: none is both white space and a digit; and what stands at a place.
use Rattle.std.proofs.Common.{Option, Some, None, MatchOption}
use Rattle.std.proofs.Math.Nat.{le_refl}
use Rattle.std.specs.Slice.{IsItemAt}
use Rattle.std.specs.Option.{option_eq}
use denote.Bor.{Bor}
use borrow.Author.Tests.{ne_eqb}
use lib.Dec.{eqb}
use mathlib.Core.Path.{◌≡◌, refl, sym, ap, ◌∙◌}
use mathlib.Core.Bool.{Bool, true, false, false≢true}
use mathlib.Core.List.{List}
use Prim.Native.Nat.{ℕ, ◌≤◌, ◌<◌}
use native.Mathlib.Omega.{arith}
use lib.ListN.{length, get_or-eq_default}
use Rattle.tables.specs.Table.{at}
use Rattle.std.proofs.lemmas.Bool.{false_from_ne_true}
use Rattle.tables.proofs.Cases.{either}
use Rattle.text.specs.Decimal.{zero_code, is_digit}
use Rattle.text.proofs.Decimal.{digit_range}
use Rattle.scanning.specs.Scanning.{is_space, starts_comment}
use Rattle.scanning.proofs.Spaces.{not_space}

pub digit_no_space : (b : ℕ) → is_digit b ≡ true → is_space b ≡ false
digit_no_space b digit =
    let least : zero_code ≤ b = (digit_range b digit).0 in
    not_space b (λ e. omega arith) (λ low high. omega arith)

pub space_no_digit : (b : ℕ) → is_space b ≡ true → is_digit b ≡ false
space_no_digit b space = false_from_ne_true (is_digit b) (λ digit. false≢true (sym (digit_no_space b digit) ∙ space))

-- nor does a digit begin a comment
pub digit_no_comment : (b : ℕ) → is_digit b ≡ true → starts_comment b ≡ false
digit_no_comment b digit =
    let least : zero_code ≤ b = (digit_range b digit).0 in
    ne_eqb b 35 (λ e. omega arith)

-- past the end stands 0: what passes a test that 0 does not pass lies within the bytes
pub byte_within : (test : ℕ → Bool) → test 0 ≡ false → (bytes : List ℕ) (place : ℕ) → test (at bytes place) ≡ true → place < length bytes
byte_within test none bytes place passes =
    either (length bytes) place
    (λ past. absurd (false≢true (sym none ∙ ap test (sym (get_or-eq_default bytes 0 past)) ∙ passes)))
    (λ less. less)

-- as white space does
pub space_within : (bytes : List ℕ) (place : ℕ) → is_space (at bytes place) ≡ true → place < length bytes
space_within = byte_within is_space refl

-- what a test of the byte at a place tells, if none stands there
pub last_is : (bytes : List ℕ) (place : ℕ) (byte : Option (Bor ℕ)) (space : Bool) → IsItemAt bytes place byte
    → MatchOption byte (space ≡ false) (λ x. space ≡ is_space x.now)
    → space ≡ is_space (at bytes place)
last_is bytes place None space got tested = tested ∙ ap is_space (got.4 (le_refl place) 0)
last_is bytes place (Some x) space got tested = tested ∙ ap is_space (got.4 (le_refl place) 0)

-- a comparison of the byte at a place, if one stands there, with one that is not 0
pub byte_is : (bytes : List ℕ) (place : ℕ) (byte : Option (Bor ℕ)) (x : Bor ℕ) → 0 < x.now → IsItemAt bytes place byte
    → option_eq (λ (x y : Bor ℕ). eqb x.now y.now) byte (Some x) ≡ eqb (at bytes place) x.now
byte_is bytes place None x some got = sym (ne_eqb (at bytes place) x.now (λ e. omega (arith, some, e, got.4 (le_refl place) 0)))
byte_is bytes place (Some y) x some got = ap (λ (b : ℕ). eqb b x.now) (got.4 (le_refl place) 0)
