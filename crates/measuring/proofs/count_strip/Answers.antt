-- `measuring::count_strip` meets its contract.
use Rattle.std.proofs.Common.{◌≡◌, List, ℕ, ◌+◌, ◌*◌, ◌/◌, ◌<◌, ◌≤◌, length, drop, replicate, refl, sym, ap, ap₂, ◌∙◌, arith, rules}
use Rattle.std.proofs.lemmas.List.{drop-map, get_or-replicate}
use Rattle.tables.specs.Table.{at, tabulate}
use Rattle.tables.proofs.Laws.{at_table}
use Rattle.pixel.specs.Strip.{pixels_of, pixel_from}
use Rattle.pixel.specs.declared.Pixel.{Pixel}
use Rattle.pixel.proofs.Strips.{length_pixels}
use Rattle.measuring.specs.Histogram.{with_pixels}
use Rattle.measuring.specs.Inner.{sum_of_four, arrays_pixels}
use Rattle.measuring.proofs.Counting.{with_length, with_at, Counting, counting_start, counting_more, four_fits, rest_fits, pixels_of_threes, pixel_of_four, counting_rest}
use Rattle.measuring.proofs.count_strip.Goals as goal

pub loop-a-init : goal.loop-a-init
loop-a-init c =
    let none : (s : ℕ) → s ≤ 765 → at (replicate 766 0) s ≡ 0 = λ s l. get_or-replicate 766 s 0 0 (omega arith) in
    (search rules, refl, refl, refl, counting_start _ _ _ (λ s l. omega (arith, none s l)))

pub count_pixel-requires : goal.count_pixel-requires
count_pixel-requires c =
    four_fits c.loop-a.invariant.4 c.requires _ c.as_chunks.ensures.front_len _ c.as_chunks-2.ensures.front_len c.loop-a-test.true _
    c.loop-a.invariant.0 (λ s l. omega arith)

pub count_pixel-requires-in-loop-a : goal.count_pixel-requires-in-loop-a
count_pixel-requires-in-loop-a c =
    four_fits c.loop-a.invariant.4 c.requires _ c.as_chunks.ensures.front_len _ c.as_chunks-2.ensures.front_len c.loop-a-test.true _
    c.loop-a.invariant.1 (λ s l. omega arith)

pub count_pixel-requires-in-loop-a-2 : goal.count_pixel-requires-in-loop-a-2
count_pixel-requires-in-loop-a-2 c =
    four_fits c.loop-a.invariant.4 c.requires _ c.as_chunks.ensures.front_len _ c.as_chunks-2.ensures.front_len c.loop-a-test.true _
    c.loop-a.invariant.2 (λ s l. omega arith)

pub count_pixel-requires-in-loop-a-3 : goal.count_pixel-requires-in-loop-a-3
count_pixel-requires-in-loop-a-3 c =
    four_fits c.loop-a.invariant.4 c.requires _ c.as_chunks.ensures.front_len _ c.as_chunks-2.ensures.front_len c.loop-a-test.true _
    c.loop-a.invariant.3 (λ s l. omega arith)

-- the four histograms have their pixel, one after the other
pub loop-a-preserved : goal.loop-a-preserved
loop-a-preserved c =
    let start = c.args.start in
    let strip = c.args.strip.now in
    let k = c.loop-a.a-index in
    let arrays = c.as_chunks.result.0.now in
    let first = c.count_pixel.new.counts in
    let second = c.count_pixel-in-loop-a.new.counts in
    let third = c.count_pixel-in-loop-a-2.new.counts in
    let few : k < length arrays / 4 = omega (arith, c.as_chunks-2.ensures.front_len) in
    let there : 4 * k + 3 < length (pixels_of strip) = omega (arith, c.as_chunks.ensures.front_len, length_pixels strip) in
    let next = pixel_of_four strip arrays c.as_chunks.ensures.front c.as_chunks-2.result.0.now c.as_chunks-2.ensures.front k in
    let one : Counting start (pixels_of strip) (sum_of_four first c.loop-a.second c.loop-a.third c.loop-a.fourth) (4 * k + 1) =
    counting_more c.loop-a.invariant.4 _ (omega arith) (next 0 few (omega arith) _ (omega arith) _ refl) _
    (λ s l. omega (arith, with_at _ _ c.count_pixel.ensures s l)) _ refl in
    let two : Counting start (pixels_of strip) (sum_of_four first second c.loop-a.third c.loop-a.fourth) (4 * k + 2) =
    counting_more one _ (omega arith) (next 1 few (omega arith) _ refl _ refl) _
    (λ s l. omega (arith, with_at _ _ c.count_pixel-in-loop-a.ensures s l)) _ (omega arith) in
    let three : Counting start (pixels_of strip) (sum_of_four first second third c.loop-a.fourth) (4 * k + 3) =
    counting_more two _ (omega arith) (next 2 few (omega arith) _ refl _ refl) _
    (λ s l. omega (arith, with_at _ _ c.count_pixel-in-loop-a-2.ensures s l)) _ (omega arith) in (
      with_length _ _ c.count_pixel.ensures,
      with_length _ _ c.count_pixel-in-loop-a.ensures,
      with_length _ _ c.count_pixel-in-loop-a-2.ensures,
      with_length _ _ c.count_pixel-in-loop-a-3.ensures,
      counting_more three _ (omega arith) (next 3 few (omega arith) _ refl _ refl) _
          (λ s l. omega (arith, with_at _ _ c.count_pixel-in-loop-a-3.ensures s l)) _ (omega arith),
    )

pub added-requires : goal.added-requires
added-requires c s l =
    omega (
      arith,
      rest_fits c.loop-a.invariant.4 c.requires _ c.as_chunks.ensures.front_len _ refl (omega (arith, c.as_chunks-2.ensures.front_len)) s l,
    )

-- what the four make, added up
added_at : (first second third fourth counts : List ℕ) → counts ≡ tabulate (sum_of_four first second third fourth) 766
    → (s : ℕ) → s ≤ 765 → at counts s ≡ sum_of_four first second third fourth s
added_at first second third fourth counts is s l = at_table (sum_of_four first second third fourth) 766 counts is s (omega arith)

pub count_rest-requires : goal.count_rest-requires
count_rest-requires c s l =
    omega (
      arith,
      added_at _ _ _ _ _ c.added.ensures s l,
      rest_fits c.loop-a.invariant.4 c.requires _ c.as_chunks.ensures.front_len _ c.as_chunks-2.ensures.back_len
          (omega (arith, c.as_chunks-2.ensures.front_len)) s l,
    )

pub returns : goal.returns
returns c =
    let strip = c.args.strip.now in
    let arrays = c.as_chunks.result.0.now in
    let k : length arrays / 4 * 4 ≡ 4 * c.loop-a.a-index = omega (arith, c.as_chunks-2.ensures.front_len) in
    let rest : arrays_pixels c.as_chunks-2.result.1.now ≡ drop (4 * c.loop-a.a-index) (pixels_of strip) =
    ap arrays_pixels c.as_chunks-2.ensures.back
    ∙ sym (drop-map (λ bytes. pixel_from bytes 0) (length arrays / 4 * 4) arrays)
    ∙ ap₂ (λ (n : ℕ) (ps : List Pixel). drop n ps) k (ap arrays_pixels c.as_chunks.ensures.front ∙ pixels_of_threes (length strip / 3) strip refl) in
    c.count_rest.ensures
    ∙ ap (with_pixels c.added.result) rest
    ∙ counting_rest c.loop-a.invariant.4 _ (added_at _ _ _ _ _ c.added.ensures)
