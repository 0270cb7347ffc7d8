-- Reading a header is what the grammar says, both ways; and reading what was written gives the same picture back.
use mathlib.Core.Path.{◌≡◌, refl, sym, ap, ap₂, subst, ◌∙◌}
use mathlib.Core.Bool.{Bool, true, false, cond}
use mathlib.Core.List.{List, [], ◌∷◌, ◌++◌, append_assoc}
use Prim.Native.Nat.{ℕ, suc, ◌+◌, ◌-◌, ◌*◌, ◌≤◌, ◌<◌}
use native.Mathlib.Nat.{min-le_left, add-sub_of_le}
use native.Mathlib.Omega.{arith}
use borrow.Author.Tests.{ne_eqb, le-ltb}
use lib.ListN.{length, take, drop, length-append, length-take, take-append-drop}
use lib.Seq.{drop-cons, append_snoc, take-append-add, get_or-append_seam}
use Rattle.tables.specs.Table.{at}
use Rattle.text.specs.Decimal.{is_digit, value}
use Rattle.text.specs.Text.{ascii}
use Rattle.text.proofs.Decimal.{decimal_means}
use Rattle.scanning.specs.Scanning.{is_space, run_length}
use Rattle.netpbm.specs.Header.{header_limit, area_limit, judged, has_letters, header_in, header_of, Reading, Accepted, Malformed}
use Rattle.netpbm.specs.Grammar.{Parts, text_of, IsHeader, HasHeader, ReadingIsTheGrammar, WrittenIsRead}
use Rattle.netpbm.proofs.Bytes.{space_within}
use Rattle.netpbm.proofs.WhiteTexts.{one_space, white_stops}
use Rattle.netpbm.proofs.FieldTexts.{FieldText, read_to, field_complete, same_field, field_sound}
use Rattle.netpbm.proofs.Fields.{last_decides}
use Rattle.netpbm.proofs.Letters.{letters_split}
use Rattle.netpbm.proofs.Written.{width_fits, height_fits, written_parts, written_text, written_is_header}

-- A header's text is read, whatever follows it.
module _ (p : Parts) (header : IsHeader p) (rest : List ℕ) where
  abbrev letters : List ℕ
  letters = ascii "P6"

  -- the text up to the end of each number
  abbrev to_width : List ℕ
  to_width = letters ++ p.before_width ++ p.width

  abbrev to_height : List ℕ
  to_height = to_width ++ p.before_height ++ p.height

  abbrev to_largest : List ℕ
  to_largest = to_height ++ p.before_largest ++ p.largest

  -- and what follows each
  abbrev after_largest : List ℕ
  after_largest = p.last ∷ rest

  abbrev after_height : List ℕ
  after_height = p.before_largest ++ (p.largest ++ after_largest)

  abbrev after_width : List ℕ
  after_width = p.before_height ++ (p.height ++ after_height)

  width_text : FieldText (text_of p ++ rest) letters p.before_width p.width after_width
  width_text = record { white = header.before_width; numeral = header.width; split = simp append_assoc }

  height_text : FieldText (text_of p ++ rest) to_width p.before_height p.height after_height
  height_text = record { white = header.before_height; numeral = header.height; split = simp append_assoc }

  largest_text : FieldText (text_of p ++ rest) to_height p.before_largest p.largest after_largest
  largest_text = record { white = header.before_largest; numeral = header.largest; split = append_snoc to_largest p.last rest }

  -- where no digit goes on
  width_stops : run_length is_digit after_width ≡ 0
  width_stops = white_stops header.before_height (p.height ++ after_height)

  height_stops : run_length is_digit after_height ≡ 0
  height_stops = white_stops header.before_largest (p.largest ++ after_largest)

  largest_stops : run_length is_digit after_largest ≡ 0
  largest_stops = white_stops (one_space p.last header.last) rest

  last_at : at (text_of p ++ rest) (length to_largest) ≡ p.last
  last_at =
      ap (λ (l : List ℕ). at l (length to_largest)) (append_snoc to_largest p.last rest)
      ∙ get_or-append_seam to_largest p.last rest 0

  text_complete : header_in (text_of p ++ rest) ≡ judged (value p.width) (value p.height) (value p.largest) (length (text_of p))
  text_complete =
      last_decides (text_of p ++ rest) _ _ _ _ _ _ refl
      (field_complete width_text width_stops)
      (field_complete height_text height_stops)
      (field_complete largest_text largest_stops)
      ∙ rw (ap is_space last_at ∙ header.last) refl
      ∙ ap (judged (value p.width) (value p.height) (value p.largest)) (sym (length-append to_largest (p.last ∷ [])))

-- the first n bytes hold a front that is no longer
take_front : (n : ℕ) (front rest : List ℕ) → length front ≤ n → take n (front ++ rest) ≡ front ++ take (n - length front) rest
take_front n front rest short =
    ap (λ (k : ℕ). take k (front ++ rest)) (sym (add-sub_of_le short)) ∙ take-append-add front rest (n - length front)

complete : (p : Parts) → IsHeader p → (samples : List ℕ)
    → header_of (text_of p ++ samples) ≡ judged (value p.width) (value p.height) (value p.largest) (length (text_of p))
complete p header samples =
    ap header_in (take_front header_limit (text_of p) samples header.limit)
    ∙ text_complete p header (take (header_limit - length (text_of p)) samples)

-- what is not malformed passed the test
held : (test : Bool) (next : Reading) → (cond test next Malformed ≡ Malformed → ⊥) → (test ≡ true) × (next ≡ Malformed → ⊥)
held true next not_malformed = (refl, not_malformed)
held false next not_malformed = absurd (not_malformed refl)

-- the white-space byte after the front, split off
last_split : (bytes front : List ℕ) → bytes ≡ front ++ drop (length front) bytes → is_space (at bytes (length front)) ≡ true
    → bytes ≡ front ++ (at bytes (length front) ∷ []) ++ drop (suc (length front)) bytes
last_split bytes front split space =
    let end = length front in
    split
    ∙ ap (λ (l : List ℕ). front ++ l) (drop-cons bytes end 0 (space_within bytes end space))
    ∙ sym (append_snoc front (at bytes end) (drop (suc end) bytes))

front_within : (bytes front rest : List ℕ) → bytes ≡ front ++ rest → length front ≤ length bytes
front_within bytes front rest split = omega (arith, ap length split, length-append front rest)

-- bytes within the limit that are not malformed begin with a header
text_sound : (bytes : List ℕ) → length bytes ≤ header_limit → (header_in bytes ≡ Malformed → ⊥) → HasHeader bytes
unfolding header_in
text_sound bytes short not_malformed =
    let (lettered, widths) = held (has_letters bytes) _ not_malformed in
    let width = field_sound bytes (ascii "P6") (letters_split bytes lettered) _ widths in
    let height = field_sound bytes (read_to width) width.text.split _ width.not_malformed in
    let largest = field_sound bytes (read_to height) height.text.split _ height.not_malformed in
    let end = length (read_to largest) in
    let answer = judged (value width.digits) (value height.digits) (value largest.digits) (end + 1) in
    let (space, _) = held (is_space (at bytes end)) answer largest.not_malformed in
    let p : Parts = record {
      before_width = width.gap;
      width = width.digits;
      before_height = height.gap;
      height = height.digits;
      before_largest = largest.gap;
      largest = largest.digits;
      last = at bytes end;
    } in
    let rest = drop (suc end) bytes in
    let split : bytes ≡ text_of p ++ rest = last_split bytes (read_to largest) largest.text.split space in
    record {
      parts = p;
      is_header = record {
        before_width = width.text.white;
        width = width.text.numeral;
        before_height = height.text.white;
        height = height.text.numeral;
        before_largest = largest.text.white;
        largest = largest.text.numeral;
        last = space;
        limit = omega (arith, front_within bytes (text_of p) rest split);
      };
      samples = rest;
      split = split;
    }

sound : (file : List ℕ) → (header_of file ≡ Malformed → ⊥) → HasHeader file
sound file not_malformed =
    let begin = take header_limit file in
    let rest = drop header_limit file in
    let short : length begin ≤ header_limit = rw length-take (min-le_left header_limit (length file)) in
    let header = text_sound begin short not_malformed in
    record {
      parts = header.parts;
      is_header = header.is_header;
      samples = header.samples ++ rest;
      split =
          sym (take-append-drop header_limit file)
          ∙ ap (λ (l : List ℕ). l ++ rest) header.split
          ∙ append_assoc (text_of header.parts) header.samples rest;
    }

-- parts, one by one
abbrev parts : (before_width width before_height height before_largest largest : List ℕ) → ℕ → Parts
parts before_width width before_height height before_largest largest last = record {
  before_width = before_width;
  width = width;
  before_height = before_height;
  height = height;
  before_largest = before_largest;
  largest = largest;
  last = last;
}

-- Two headers at the start of one file: each part of one is that of the other.
module _ (p q : Parts) (first : IsHeader p) (second : IsHeader q) (samples others : List ℕ) (same : text_of p ++ samples ≡ text_of q ++ others) where
  -- a field of the second, in the first's file
  moved : {front gap digits rest : List ℕ} → FieldText (text_of q ++ others) front gap digits rest
      → FieldText (text_of p ++ samples) front gap digits rest
  moved {front} {gap} {digits} {rest} = subst (λ (bytes : List ℕ). FieldText bytes front gap digits rest) (sym same)

  fronts₁ : letters p first samples ≡ letters q second others
  fronts₁ = refl

  widths : (p.before_width ≡ q.before_width) × (p.width ≡ q.width)
  widths =
      same_field (width_text p first samples) (width_stops p first samples) (moved (width_text q second others)) (width_stops q second others) fronts₁

  fronts₂ : to_width p first samples ≡ to_width q second others
  fronts₂ = ap₂ ◌++◌ (ap₂ ◌++◌ fronts₁ widths.0) widths.1

  heights : (p.before_height ≡ q.before_height) × (p.height ≡ q.height)
  heights =
      same_field (height_text p first samples) (height_stops p first samples) (moved (height_text q second others)) (height_stops q second others)
      fronts₂

  fronts₃ : to_height p first samples ≡ to_height q second others
  fronts₃ = ap₂ ◌++◌ (ap₂ ◌++◌ fronts₂ heights.0) heights.1

  largests : (p.before_largest ≡ q.before_largest) × (p.largest ≡ q.largest)
  largests =
      same_field (largest_text p first samples) (largest_stops p first samples) (moved (largest_text q second others))
      (largest_stops q second others)
      fronts₃

  fronts₄ : to_largest p first samples ≡ to_largest q second others
  fronts₄ = ap₂ ◌++◌ (ap₂ ◌++◌ fronts₃ largests.0) largests.1

  lasts : p.last ≡ q.last
  lasts =
      sym (last_at p first samples)
      ∙ ap₂ (λ (bytes front : List ℕ). at bytes (length front)) same fronts₄
      ∙ last_at q second others

  unique_lem : p ≡ q
  unique_lem =
      ap₂ (λ (g d : List ℕ). parts g d p.before_height p.height p.before_largest p.largest p.last) widths.0 widths.1
      ∙ ap₂ (λ (g d : List ℕ). parts q.before_width q.width g d p.before_largest p.largest p.last) heights.0 heights.1
      ∙ ap₂ (λ (g d : List ℕ). parts q.before_width q.width q.before_height q.height g d p.last) largests.0 largests.1
      ∙ ap (parts q.before_width q.width q.before_height q.height q.before_largest q.largest) lasts

pub reading_is_the_grammar : ReadingIsTheGrammar
reading_is_the_grammar = record { complete = complete; sound = sound; unique = unique_lem }

-- a picture of an allowed size is accepted
accepted : (width height start : ℕ) → 0 < width * height → width * height ≤ area_limit
    → judged width height 255 start ≡ Accepted (record { width = width; height = height; start = start })
accepted width height start some most = rw (ne_eqb (width * height) 0 (λ e. omega arith), le-ltb area_limit (width * height) most)

pub written_is_read : WrittenIsRead
written_is_read width height some most samples =
    let narrow = width_fits width height some most in
    let low = height_fits width height some most in
    ap (λ t. header_of (t ++ samples)) (written_text width height)
    ∙ complete (written_parts width height) (written_is_header width height narrow low) samples
    ∙ rw (
      decimal_means.value width (omega arith),
      decimal_means.value height (omega arith),
      decimal_means.value 255 (omega arith),
      written_text width height,
    )
    (accepted width height (length (text_of (written_parts width height))) some most)
