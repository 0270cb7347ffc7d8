-- Counting a strip's pixels one after the other.
use mathlib.Core.Path.{◌≡◌, refl, sym, ap, ap₂, ◌∙◌}
use mathlib.Core.Bool.{Bool, true, false, cond}
use mathlib.Core.List.{List, [], ◌∷◌, ◌++◌}
use Prim.Native.Nat.{ℕ, zero, suc, ◌+◌, ◌*◌, ◌/◌, ◌%◌, ◌≤◌, ◌<◌}
use native.Mathlib.Omega.{arith}
use borrow.Author.Tests.{eqb-true, eqb-false}
use lib.Dec.{eqb}
use lib.ListN.{length, set, take, drop, get_or, length-set}
use lib.Seq.{get_or-set_same, get_or-set_other}
use Rattle.std.specs.Simd.{first_chunks}
use Rattle.std.proofs.lemmas.List.{take_more, take_all, take-append-drop, length-take-le, get_or-map, get_or-take, get_or-drop}
use Rattle.tables.specs.Table.{at}
use Rattle.tables.proofs.Laws.{length_tabulate, at_table, is_tabulate, tabulate_same}
use Rattle.pixel.specs.Move.{intensity}
use Rattle.pixel.specs.Strip.{pixels_of, pixel_from}
use Rattle.pixel.specs.declared.Pixel.{Pixel}
use Rattle.pixel.proofs.Strips.{length_pixels}
use Rattle.measuring.specs.Inner.{RoomFor, PixelFits, CountsFit, arrays_pixels}
use Rattle.measuring.specs.Histogram.{count_of, with_pixels}
use Rattle.measuring.proofs.Counts.{count_le, count_append}

-- counts to which pixels were added: how many there are, and what each has
module _ (counts : List ℕ) (ps : List Pixel) {more : List ℕ} (is : more ≡ with_pixels counts ps) where
  pub with_length : length more ≡ 766
  unfolding with_pixels
  with_length = ap length is ∙ length_tabulate _ 766

  pub with_at : (s : ℕ) → s ≤ 765 → at more s ≡ at counts s + count_of ps s
  unfolding with_pixels
  with_at s h = at_table (λ s. at counts s + count_of ps s) 766 more is s (omega arith)

-- one more at a pixel's intensity adds that pixel
pub one_more : (counts : List ℕ) → length counts ≡ 766 → (p : Pixel) (s : ℕ) → s ≡ intensity p → s ≤ 765
    → set counts s (at counts s + 1) ≡ with_pixels counts (p ∷ [])
unfolding with_pixels
one_more counts size p s is range =
    is_tabulate (λ t. at counts t + count_of (p ∷ []) t) 766 (set counts s (at counts s + 1))
    (length-set counts s (at counts s + 1) ∙ size)
    (λ t l. go t (eqb (intensity p) t) refl)
  where
    go : (t : ℕ) (b : Bool) → eqb (intensity p) t ≡ b → at (set counts s (at counts s + 1)) t ≡ at counts t + (cond b 1 0 + 0)
    go t true z =
        let same : s ≡ t = is ∙ eqb-true _ t z in
        rw (← same) (omega (arith, get_or-set_same counts s (at counts s + 1) 0 (omega arith)))
    go t false z =
        omega (arith, get_or-set_other counts s t (at counts s + 1) 0 (λ (e : t ≡ s). eqb-false _ t z (sym (e ∙ is))))

-- the j-th element of the k-th chunk
chunk_at : {X : Type 0} (n count : ℕ) (xs : List X) (k j : ℕ) (none : List X) (d : X) → k < count → j < n
    → get_or (get_or (first_chunks n count xs) k none) j d ≡ get_or xs (n * k + j) d
chunk_at n zero xs k j none d h l = absurd (omega arith)
chunk_at n (suc count) xs zero j none d h l =
    let place : j ≡ n * 0 + j = omega arith in
    get_or-take n xs j d l ∙ ap (λ (i : ℕ). get_or xs i d) place
chunk_at n (suc count) xs (suc k) j none d h l =
    let place : n + (n * k + j) ≡ n * suc k + j = omega arith in
    chunk_at n count (drop n xs) k j none d (omega arith) l ∙ get_or-drop n xs (n * k + j) d ∙ ap (λ (i : ℕ). get_or xs i d) place

-- a strip's pixels, of its bytes in threes
pub pixels_of_threes : (count : ℕ) (strip : List ℕ) → count ≡ length strip / 3 → arrays_pixels (first_chunks 3 count strip) ≡ pixels_of strip
pixels_of_threes zero [] is = refl
pixels_of_threes zero (r ∷ []) is = refl
pixels_of_threes zero (r ∷ g ∷ []) is = refl
pixels_of_threes zero (r ∷ g ∷ b ∷ rest) is = absurd (omega arith)
pixels_of_threes (suc count) [] is = absurd (omega arith)
pixels_of_threes (suc count) (r ∷ []) is = absurd (omega arith)
pixels_of_threes (suc count) (r ∷ g ∷ []) is = absurd (omega arith)
pixels_of_threes (suc count) (r ∷ g ∷ b ∷ rest) is =
    ap (λ (ps : List Pixel). pixel_from (r ∷ g ∷ b ∷ []) 0 ∷ ps) (pixels_of_threes count rest (omega arith))

-- the j-th pixel of the k-th four of a strip
pub pixel_of_four : (strip : List ℕ) (arrays : List (List ℕ)) → arrays ≡ first_chunks 3 (length strip / 3) strip
    → (fours : List (List (List ℕ))) → fours ≡ first_chunks 4 (length arrays / 4) arrays → (k j : ℕ) → k < length arrays / 4 → j < 4
    → (i : ℕ) → i ≡ 4 * k + j → (p : Pixel) → p ≡ pixel_from (get_or (get_or fours k []) j []) 0 → p ≡ get_or (pixels_of strip) i p
pixel_of_four strip arrays threes fours are k j h l i place p is =
    is
    ∙ ap (λ (fours : List (List (List ℕ))). pixel_from (get_or (get_or fours k []) j []) 0) are
    ∙ ap (λ (bytes : List ℕ). pixel_from bytes 0) (chunk_at 4 (length arrays / 4) arrays k j [] [] h l)
    ∙ sym (get_or-map (λ bytes. pixel_from bytes 0) arrays (4 * k + j) [] p (omega arith))
    ∙ ap₂ (λ (ps : List Pixel) (i : ℕ). get_or ps i p) (ap arrays_pixels threes ∙ pixels_of_threes (length strip / 3) strip refl) (sym place)

-- a loop's invariant, where the first i pixels are counted and `count` is what there is of each intensity, in one histogram or in several
pub record Counting (start : List ℕ) (ps : List Pixel) (count : ℕ → ℕ) (i : ℕ) : Type 0 where
  pub within : i ≤ length ps
  pub so_far : (s : ℕ) → s ≤ 765 → count s ≡ at start s + count_of (take i ps) s

pub counting_start : (start : List ℕ) (ps : List Pixel) (count : ℕ → ℕ) → ((s : ℕ) → s ≤ 765 → count s ≡ at start s) → Counting start ps count 0
counting_start start ps count same = record { within = omega arith; so_far = λ s l. omega (arith, same s l) }

module _ {start : List ℕ} {ps : List Pixel} {count : ℕ → ℕ} {i : ℕ} (h : Counting start ps count i) where
  -- the next pixel is counted
  pub counting_more : (p : Pixel) → i < length ps → p ≡ get_or ps i p
      → (more : ℕ → ℕ) → ((s : ℕ) → s ≤ 765 → more s ≡ count s + count_of (p ∷ []) s)
      → (j : ℕ) → j ≡ i + 1 → Counting start ps more j
  counting_more p less next more one j is = rw is (record {
    within = omega arith;
    so_far = λ s l.
        let taken : count_of (take (i + 1) ps) s ≡ count_of (take i ps ++ p ∷ []) s =
        ap (λ (qs : List Pixel). count_of qs s) (take_more ps i p less ∙ ap (λ (q : Pixel). take i ps ++ q ∷ []) (sym next)) in
        omega (arith, one s l, h.so_far s l, taken, count_append (λ t. eqb t s) (take i ps) (p ∷ []));
  })

  -- no more are counted than there are
  pub counted_le : (s : ℕ) → s ≤ 765 → count s ≤ at start s + i
  counted_le s l =
      omega (arith, h.so_far s l, h.within, count_le (λ t. eqb t s) (take i ps), length-take-le i ps h.within)

  -- a histogram that has no more than what is counted can take the next pixel
  pub pixel_fits : i < length ps → RoomFor (length ps) (at start)
      → (counts : List ℕ) → length counts ≡ 766 → ((s : ℕ) → s ≤ 765 → at counts s ≤ count s) → PixelFits counts
  pixel_fits less fit counts size part =
      record { size = size; room = λ s l. omega (arith, fit s l, counted_le s l, part s l) }

  -- what is left makes it the whole
  pub counting_rest : (counts : List ℕ) → ((s : ℕ) → s ≤ 765 → at counts s ≡ count s)
      → with_pixels counts (drop i ps) ≡ with_pixels start ps
  unfolding with_pixels
  counting_rest counts is =
      tabulate_same _ _ 766
      (λ s l.
      let all = ap (λ (qs : List Pixel). count_of qs s) (take-append-drop i ps) in
      omega (arith, is s (omega arith), h.so_far s (omega arith), all, count_append (λ t. eqb t s) (take i ps) (drop i ps)))

  -- where nothing is left, it is
  pub counting_end : (counts : List ℕ) → length counts ≡ 766 → ((s : ℕ) → s ≤ 765 → at counts s ≡ count s) → length ps ≤ i
      → counts ≡ with_pixels start ps
  unfolding with_pixels
  counting_end counts size is past =
      is_tabulate _ 766 counts size
      (λ s l.
      let all = ap (λ (qs : List Pixel). count_of qs s) (take_all i ps past) in
      omega (arith, is s (omega arith), h.so_far s (omega arith), all))

-- A strip's pixels in fours, of which 4 × k are counted.
module _ {start strip : List ℕ} {count : ℕ → ℕ} {k : ℕ} (counted : Counting start (pixels_of strip) count (4 * k)) (ok : CountsFit start strip)
    (arrays : List (List ℕ)) (threes : length arrays ≡ length strip / 3) where
  -- a histogram that has no more than what is counted can take a pixel of the next four
  pub four_fits : (fours : List (List (List ℕ))) → length fours ≡ length arrays / 4 → k < length fours
      → (counts : List ℕ) → length counts ≡ 766 → ((s : ℕ) → s ≤ 765 → at counts s ≤ count s) → PixelFits counts
  four_fits fours in_fours less =
      pixel_fits counted (omega (arith, length_pixels strip)) (λ s l. omega (arith, ok.fit s l, length_pixels strip))

  -- what is counted fits, and can take what is left
  pub rest_fits : (rest : ℕ) → rest ≡ length arrays % 4 → length arrays / 4 ≡ k → RoomFor rest count
  rest_fits rest is end s l = omega (arith, ok.fit s l, counted_le counted s l)
