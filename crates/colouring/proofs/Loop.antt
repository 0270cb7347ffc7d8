-- A loop that writes a strip, coloured by its lines, from the first pixel on.
use mathlib.Core.List.{List, [], ◌∷◌, ◌++◌}
use mathlib.Core.Path.{◌≡◌, refl, sym, ap, ◌∙◌}
use Prim.Native.Nat.{ℕ, ◌+◌, ◌-◌, ◌%◌, ◌≤◌, ◌<◌}
use native.Mathlib.Omega.{arith}
use lib.ListN.{length, take, drop}
use lib.Seq.{take-add, take_at, take_all}
use Rattle.pixel.specs.Move.{intensity, each_sample}
use Rattle.pixel.specs.Strip.{bytes_of, pixel_from}
use Rattle.pixel.specs.declared.Pixel.{Pixel}
use Rattle.pixel.proofs.Strips.{whole_means, drop_three}
use Rattle.lines.specs.Line.{sample_at, line_at}
use Rattle.lines.specs.declared.FixedLine.{FixedLine}
use Rattle.writing.specs.Inner.{WrittenFrom}
use Rattle.writing.proofs.Stores.{written_before}
use Rattle.colouring.specs.Inner.{SameSize, along_lines}
use Rattle.colouring.proofs.EachPixel.{each_pixel_from, each_pixel_length}

-- a pixel, moved along a line
abbrev along : FixedLine → Pixel → Pixel
along line = each_sample (sample_at line)

-- moved along the line of its intensity
abbrev change : List FixedLine → Pixel → Pixel
change lines p = along (line_at lines (intensity p)) p

-- the loop's invariant: up to byte i, the destination holds the coloured strip
pub record ColouredTo (lines : List FixedLine) (source destination : List ℕ) (i : ℕ) : Type 0 where
  pub size : SameSize source destination
  pub threes : i % 3 ≡ 0
  pub within : i ≤ length source
  pub done : take i destination ≡ take i (along_lines lines source)

module _ {lines : List FixedLine} {source destination : List ℕ} {i : ℕ} (h : ColouredTo lines source destination i) where
  abbrev full : List ℕ
  full = along_lines lines source

  full_length : length full ≡ length source
  full_length = each_pixel_length (change lines) source h.size.whole

  pub coloured_end : i ≡ length source → destination ≡ full
  coloured_end e =
      sym (take_all i destination (omega (arith, h.size.same)))
      ∙ h.done
      ∙ take_all i full (omega (arith, full_length))

  -- a pixel that begins is whole
  pub inside_source : i < length source → i + 2 < length source
  inside_source less = omega (arith, h.threes, whole_means (length source) h.size.whole)

  -- where fewer than two are left, it is the last
  pub last_pixel : i < length source → length source - i < 6 → i + 3 ≡ length source
  last_pixel less few = omega (arith, h.threes, whole_means (length source) h.size.whole)

  -- the coloured strip from byte j on: the pixel there, moved along its line, and then the rest
  next_pixel : (j : ℕ) (p : Pixel) (line : FixedLine) → j % 3 ≡ 0 → j < length source → p ≡ pixel_from source j
      → line ≡ line_at lines (intensity p) → drop j full ≡ bytes_of (along line p ∷ []) ++ drop (j + 3) full
  next_pixel j p line threes inside read found =
      let whole = whole_means (length source) h.size.whole in
      let here : pixel_from full j ≡ along line p =
      each_pixel_from (change lines) source j threes inside whole
      ∙ sym (ap (λ (l : FixedLine). along l p) found ∙ ap (change lines) read) in
      drop_three full j (omega (arith, full_length)) ∙ ap (λ (q : Pixel). bytes_of (q ∷ []) ++ drop (j + 3) full) here

  -- with the strip's next bytes written, up to byte j, those after them are due
  coloured_more : (j : ℕ) (after bytes : List ℕ) → i + length bytes ≡ j → WrittenFrom destination after i i bytes
      → length after ≡ length destination → length bytes % 3 ≡ 0 → j ≤ length source → drop i full ≡ bytes ++ drop j full
      → ColouredTo lines source after j
  coloured_more j after bytes e w same threes within next =
      let ahead : (l rest : List ℕ) → drop i l ≡ bytes ++ rest → take j l ≡ take i l ++ bytes =
      λ l rest there.
      ap (λ (k : ℕ). take k l) (sym e)
      ∙ take-add i (length bytes) l
      ∙ ap (λ (k : List ℕ). take i l ++ k) (ap (take (length bytes)) there ∙ take_at bytes rest (length bytes) refl) in
      record {
        size = record { whole = h.size.whole; same = same ∙ h.size.same };
        threes = omega (arith, h.threes);
        within = within;
        done = ahead after _ w.written ∙ ap (λ (k : List ℕ). k ++ bytes) (w.kept ∙ h.done) ∙ sym (ahead full _ next);
      }

  -- the next pixel by itself
  pub coloured_one : (after : List ℕ) (p : Pixel) (line : FixedLine) → i < length source → p ≡ pixel_from source i
      → line ≡ line_at lines (intensity p) → length after ≡ length destination
      → WrittenFrom destination after i i (bytes_of (along line p ∷ [])) → ColouredTo lines source after (i + 3)
  coloured_one after p line inside read found same w =
      coloured_more (i + 3) after _ refl w same refl (omega (arith, inside_source inside))
      (next_pixel i p line h.threes inside read found)

  -- the next two pixels, the second one first
  pub coloured_two : (j : ℕ) (between after : List ℕ) (p q : Pixel) (line line' : FixedLine) → i + 6 ≡ j → j ≤ length source
      → p ≡ pixel_from source i → q ≡ pixel_from source (i + 3)
      → line ≡ line_at lines (intensity p) → line' ≡ line_at lines (intensity q) → length after ≡ length destination
      → WrittenFrom destination between i (i + 3) (bytes_of (along line' q ∷ []))
      → WrittenFrom between after i i (bytes_of (along line p ∷ []))
      → ColouredTo lines source after j
  coloured_two j between after p q line line' six within read read' found found' same second first =
      let ps = bytes_of (along line p ∷ []) in
      let qs = bytes_of (along line' q ∷ []) in
      let next : drop i full ≡ ps ++ (qs ++ drop (i + 3 + 3) full) =
      next_pixel i p line h.threes (omega arith) read found
      ∙ ap (λ (k : List ℕ). ps ++ k) (next_pixel (i + 3) q line' (omega (arith, h.threes)) (omega arith) read' found') in
      let end : i + 3 + 3 ≡ j = omega arith in
      coloured_more j after (ps ++ qs) six (written_before destination between after i i i (i + 3) ps qs (omega arith) refl second first)
      same refl within (next ∙ ap (λ (k : ℕ). ps ++ (qs ++ drop k full)) end)
