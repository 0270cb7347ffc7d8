-- Laws of a curve's bytes and of the rule by which a curve is accepted.
use mathlib.Core.Path.{◌≡◌, refl, sym, ap, ap₂, ◌∙◌}
use mathlib.Core.Bool.{Bool, true, false, ◌&&◌, and-false}
use mathlib.Core.List.{List, [], ◌∷◌, map}
use Prim.Native.Nat.{ℕ, zero, suc, ◌+◌, ◌*◌, ◌/◌, ◌%◌, ◌≤◌, ◌<◌}
use native.Mathlib.Nat.{le_of_suc-le-suc}
use native.Mathlib.Omega.{arith}
use borrow.Author.Tests.{eqb-true, leb-true, eq-eqb, le-leb}
use lib.Dec.{leb, eqb}
use lib.ListN.{length, drop}
use Rattle.std.proofs.Common.{w16}
use Rattle.std.specs.Int.{from_le_bytes}
use Rattle.std.specs.Simd.{first_chunks}
use Rattle.std.proofs.lemmas.List.{drop_all, drop_more}
use Rattle.tables.specs.Table.{at}
use Rattle.std.proofs.lemmas.Bool.{and_parts}
use Rattle.pixel.specs.Strip.{Bytes}
use Rattle.curve.specs.Curve.{IsToneCurve}
use Rattle.curve_bytes.specs.CurveBytes.{curve_bytes, curve_entries, none_exceeds, none_falls, keeps_curve_rule, TestIsTheRule, CurvesTravel}

-- Two bytes an entry.
pub length_bytes : (curve : List ℕ) → length (curve_bytes curve) ≡ 2 * length curve
unfolding curve_bytes
length_bytes [] = refl
length_bytes (entry ∷ entries) = omega (arith, length_bytes entries)

-- the place of a byte, two further on
next_low : (k : ℕ) → 2 * suc k ≡ suc (suc (2 * k))
next_low k = omega arith

next_high : (k : ℕ) → 2 * suc k + 1 ≡ suc (suc (2 * k + 1))
next_high k = omega arith

-- the low byte first
pub low_at : (curve : List ℕ) (k : ℕ) → at (curve_bytes curve) (2 * k) ≡ at curve k % 256
unfolding curve_bytes
low_at [] k = refl
low_at (entry ∷ entries) zero = refl
low_at (entry ∷ entries) (suc k) = ap (at (curve_bytes (entry ∷ entries))) (next_low k) ∙ low_at entries k

pub high_at : (curve : List ℕ) (k : ℕ) → at (curve_bytes curve) (2 * k + 1) ≡ at curve k / 256
unfolding curve_bytes
high_at [] k = refl
high_at (entry ∷ entries) zero = refl
high_at (entry ∷ entries) (suc k) = ap (at (curve_bytes (entry ∷ entries))) (next_high k) ∙ high_at entries k

-- An entry for two bytes.
pub length_entries : (bytes : List ℕ) → length (curve_entries bytes) ≡ length bytes / 2
unfolding curve_entries
length_entries [] = refl
length_entries (low ∷ []) = refl
length_entries (low ∷ high ∷ bytes) = omega (arith, length_entries bytes)

-- the entry that `from_le_bytes` gives of them
pub entries_of_pairs : (count : ℕ) (bytes : List ℕ) → count ≡ length bytes / 2
    → map (from_le_bytes w16) (first_chunks 2 count bytes) ≡ curve_entries bytes
unfolding curve_entries
entries_of_pairs zero [] is = refl
entries_of_pairs zero (low ∷ []) is = refl
entries_of_pairs zero (low ∷ high ∷ bytes) is = absurd (omega arith)
entries_of_pairs (suc count) [] is = absurd (omega arith)
entries_of_pairs (suc count) (low ∷ []) is = absurd (omega arith)
entries_of_pairs (suc count) (low ∷ high ∷ bytes) is = ap₂ ◌∷◌ (omega arith) (entries_of_pairs count bytes (omega arith))

-- reading what was written gives the curve back
pub read_back : (curve : List ℕ) → curve_entries (curve_bytes curve) ≡ curve
unfolding curve_bytes curve_entries
read_back [] = refl
read_back (entry ∷ entries) = ap₂ ◌∷◌ (omega arith) (read_back entries)

-- writing what was read gives the bytes back
written_back : (bytes : List ℕ) → length bytes % 2 ≡ 0 → Bytes bytes → curve_bytes (curve_entries bytes) ≡ bytes
unfolding curve_bytes curve_entries
written_back [] even small = refl
written_back (low ∷ []) even small = absurd (omega arith)
written_back (low ∷ high ∷ bytes) even small =
    ap₂ ◌∷◌ (omega (arith, small 0))
    (ap₂ ◌∷◌ (omega (arith, small 0)) (written_back bytes (omega arith) (λ i. small (suc (suc i)))))

-- the first n entries do not fall
abbrev pub Rises : List ℕ → ℕ → Type 0
Rises curve n = (s t : ℕ) → s ≤ t → t < n → at curve s ≤ at curve t

-- entries that do not fall, none of them less than `before`
abbrev pub RisesFrom : ℕ → List ℕ → Type 0
RisesFrom before entries = ((k : ℕ) → k < length entries → before ≤ at entries k) × Rises entries (length entries)

rises_cons : (before entry : ℕ) (entries : List ℕ) → before ≤ entry → RisesFrom entry entries → RisesFrom before (entry ∷ entries)
rises_cons before entry entries first (above_entry, rest) = (above, rises)
  where
    above : (k : ℕ) → k < length (entry ∷ entries) → before ≤ at (entry ∷ entries) k
    above zero h = first
    above (suc k) h = omega (arith, first, above_entry k (omega arith))

    rises : Rises (entry ∷ entries) (length (entry ∷ entries))
    rises zero zero le less = omega arith
    rises zero (suc t) le less = above_entry t (omega arith)
    rises (suc s) zero le less = absurd (omega arith)
    rises (suc s) (suc t) le less = rest s t (le_of_suc-le-suc le) (omega arith)

-- that is what the test of their order says
pub falls_sound : (before : ℕ) (entries : List ℕ) → none_falls before entries ≡ true → RisesFrom before entries
unfolding none_falls
falls_sound before [] e = (λ k h. absurd (omega arith), λ s t le less. absurd (omega arith))
falls_sound before (entry ∷ entries) e =
    let (first, rest) = and_parts (leb before entry) (none_falls entry entries) e in
    rises_cons before entry entries (leb-true before entry first) (falls_sound entry entries rest)

pub falls_complete : (before : ℕ) (entries : List ℕ) → RisesFrom before entries → none_falls before entries ≡ true
unfolding none_falls
falls_complete before [] h = refl
falls_complete before (entry ∷ entries) (above, rises) =
    rw (
      le-leb before entry (above 0 (omega arith)),
      falls_complete entry entries
          (λ k h. rises 0 (suc k) (omega arith) (omega arith), λ s t le less. rises (suc s) (suc t) (omega arith) (omega arith)),
    ) refl

-- The test goes from entry to entry: what it has come to and the rest say together what all entries say.
pub falls_more : (curve : List ℕ) (i before : ℕ) (rises : Bool) → i < length curve
    → ((rises && leb before (at curve i)) && none_falls (at curve i) (drop (i + 1) curve)) ≡ (rises && none_falls before (drop i curve))
unfolding none_falls
falls_more curve i before true h = sym (ap (none_falls before) (drop_more curve i 0 h))
falls_more curve i before false h = refl

pub falls_end : (curve : List ℕ) (i before : ℕ) (rises : Bool) → length curve ≤ i → (rises && none_falls before (drop i curve)) ≡ rises
unfolding none_falls
falls_end curve i before true h = ap (none_falls before) (drop_all i curve h)
falls_end curve i before false h = refl

-- what the test of their range says
exceeds_sound : (entries : List ℕ) → none_exceeds entries ≡ true → (k : ℕ) → at entries k ≤ 765
unfolding none_exceeds
exceeds_sound [] e k = omega arith
exceeds_sound (entry ∷ entries) e zero = leb-true entry 765 (and_parts (leb entry 765) (none_exceeds entries) e).0
exceeds_sound (entry ∷ entries) e (suc k) = exceeds_sound entries (and_parts (leb entry 765) (none_exceeds entries) e).1 k

exceeds_complete : (entries : List ℕ) → ((k : ℕ) → k < length entries → at entries k ≤ 765) → none_exceeds entries ≡ true
unfolding none_exceeds
exceeds_complete [] range = refl
exceeds_complete (entry ∷ entries) range =
    rw (le-leb entry 765 (range 0 (omega arith)), exceeds_complete entries (λ k h. range (suc k) (omega arith))) refl

-- 766 entries that do not fall, the last of them 765, are in range
risen_in_range : (curve : List ℕ) → length curve ≡ 766 → at curve 765 ≡ 765 → none_falls 0 curve ≡ true → none_exceeds curve ≡ true
risen_in_range curve size white e =
    exceeds_complete curve (λ k h. omega (arith, (falls_sound 0 curve e).1 k 765 (omega arith) (omega arith)))

-- the entries of an accepted curve are in range
pub accepted_in_range : (curve : List ℕ) (s : ℕ) → keeps_curve_rule curve ≡ true → at curve s ≤ 765
unfolding keeps_curve_rule
accepted_in_range curve s e =
    let (first, rises) = and_parts (eqb (at curve 0) 0 && eqb (at curve 765) 765 && none_exceeds curve) (none_falls 0 curve) e in
    exceeds_sound curve (and_parts (eqb (at curve 0) 0 && eqb (at curve 765) 765) (none_exceeds curve) first).1 s

-- the whole test
pub curve_sound : (curve : List ℕ) → length curve ≡ 766 → keeps_curve_rule curve ≡ true → IsToneCurve curve
unfolding keeps_curve_rule
curve_sound curve size e =
    let (first, rises) = and_parts (eqb (at curve 0) 0 && eqb (at curve 765) 765 && none_exceeds curve) (none_falls 0 curve) e in
    let (ends, _) = and_parts (eqb (at curve 0) 0 && eqb (at curve 765) 765) (none_exceeds curve) first in
    let (black, white) = and_parts (eqb (at curve 0) 0) (eqb (at curve 765) 765) ends in
    record {
      size = size;
      black = eqb-true (at curve 0) 0 black;
      white = eqb-true (at curve 765) 765 white;
      range = λ s h. accepted_in_range curve s e;
      never_falls = λ s t le h. (falls_sound 0 curve rises).1 s t le (omega arith);
    }

-- where both ends are right, the entries' order alone decides
pub order_decides : (curve : List ℕ) → length curve ≡ 766 → at curve 0 ≡ 0 → at curve 765 ≡ 765 → none_falls 0 curve ≡ keeps_curve_rule curve
unfolding keeps_curve_rule
order_decides curve size black white = rw (eq-eqb (at curve 0) 0 black, eq-eqb (at curve 765) 765 white) (go (none_falls 0 curve) refl)
  where
    go : (t : Bool) → none_falls 0 curve ≡ t → t ≡ (none_exceeds curve && t)
    go true e = rw (risen_in_range curve size white e) refl
    go false e = sym (and-false (none_exceeds curve))

pub curve_complete : (curve : List ℕ) → IsToneCurve curve → keeps_curve_rule curve ≡ true
unfolding keeps_curve_rule
curve_complete curve h =
    let size = h.size in
    rw (
      eq-eqb (at curve 0) 0 h.black,
      eq-eqb (at curve 765) 765 h.white,
      exceeds_complete curve (λ k l. h.range k (omega arith)),
      falls_complete 0 curve (λ k l. omega arith, λ s t le l. h.never_falls s t le (omega arith)),
    ) refl

pub test_is_the_rule : TestIsTheRule
test_is_the_rule = record { sound = curve_sound; complete = curve_complete }

pub curves_travel : CurvesTravel
curves_travel =
    record { size = length_bytes; entries = read_back; bytes = λ bytes size small. written_back bytes (omega arith) small }
