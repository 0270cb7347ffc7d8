-- A curve at the host's boundary (document 01, "The panel's host"): its bytes, and the rule by which one is accepted.
use Rattle.std.specs.Prelude.{◌≡◌, Bool, true, not, ◌&&◌, List, [], ◌∷◌, ℕ, ◌+◌, ◌*◌, ◌/◌, ◌%◌, leb, eqb, length}
use Rattle.refusal.specs.Refusal.{Check, ◌refuses◌}
use Rattle.tables.specs.Table.{at}
use Rattle.pixel.specs.Strip.{Bytes}
use Rattle.curve.specs.Curve.{IsToneCurve}

-- A curve travels as 1,532 bytes.
abbrev pub curve_length : ℕ
curve_length = 1532

-- "entry 0 first, two bytes an entry, low byte first"
unfoldable pub curve_bytes : List ℕ → List ℕ
curve_bytes [] = []
curve_bytes (entry ∷ entries) = (entry % 256) ∷ (entry / 256) ∷ curve_bytes entries

-- The entries that bytes stand for, read in that order; a byte left over makes no entry.
unfoldable pub curve_entries : List ℕ → List ℕ
curve_entries [] = []
curve_entries (low ∷ []) = []
curve_entries (low ∷ high ∷ bytes) = (low + 256 * high) ∷ curve_entries bytes

-- "none exceeds 765"
unfoldable pub none_exceeds : List ℕ → Bool
none_exceeds [] = true
none_exceeds (entry ∷ entries) = leb entry 765 && none_exceeds entries

-- "none is less than the one before", which here is `before`.
unfoldable pub none_falls : ℕ → List ℕ → Bool
none_falls before [] = true
none_falls before (entry ∷ entries) = leb before entry && none_falls entry entries

-- "It accepts a curve only if entry 0 is 0, entry 765 is 765, none exceeds 765 and none is less than the one before." (Before entry 0
-- there is none; no entry is less than 0.)
unfoldable pub keeps_curve_rule : List ℕ → Bool
keeps_curve_rule curve = eqb (at curve 0) 0 && eqb (at curve 765) 765 && none_exceeds curve && none_falls 0 curve

-- The checks of a curve that is handed in, 10 and 11. 10: a curve's bytes are not 1,532 long. 11: the curve breaks the rule.
abbrev pub bytes_checks : List ℕ → List Check
bytes_checks bytes =
    not (eqb (length bytes) curve_length) refuses 10 ∷ not (keeps_curve_rule (curve_entries bytes)) refuses 11 ∷ []

-- Claim: 766 entries pass that test exactly if they are a tone curve. Proved: proofs/CurveBytes.antt, `test_is_the_rule`.
pub record TestIsTheRule : Type 0 where
  pub sound : (curve : List ℕ) → length curve ≡ 766 → keeps_curve_rule curve ≡ true → IsToneCurve curve
  pub complete : (curve : List ℕ) → IsToneCurve curve → keeps_curve_rule curve ≡ true

-- Claim: a curve comes through its bytes, and 1,532 bytes come through their entries. So equal entries are equal bytes.
-- Proved: proofs/CurveBytes.antt, `curves_travel`.
pub record CurvesTravel : Type 0 where
  pub size : (curve : List ℕ) → length (curve_bytes curve) ≡ 2 * length curve
  pub entries : (curve : List ℕ) → curve_entries (curve_bytes curve) ≡ curve
  pub bytes : (bytes : List ℕ) → length bytes ≡ curve_length → Bytes bytes → curve_bytes (curve_entries bytes) ≡ bytes
