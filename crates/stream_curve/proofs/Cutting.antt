-- Strips of whole pixels come to the same, measured in turn or put together.
use mathlib.Core.Path.{◌≡◌, refl, sym, ap, ◌∙◌}
use mathlib.Core.Bool.{false}
use mathlib.Core.List.{List, [], ◌∷◌, ◌++◌, append-nil}
use Prim.Native.Nat.{ℕ, ◌+◌, ◌/◌, ◌%◌, ◌<◌, ◌≤◌}
use native.Mathlib.Omega.{arith}
use borrow.Author.Tests.{eq-eqb, lt-ltb}
use lib.Dec.{eqb, ltb}
use lib.ListN.{length, length-append}
use Rattle.refusal.proofs.Laws.{none_applies, refused_leaves}
use Rattle.tables.specs.Table.{at}
use Rattle.tables.proofs.Cases.{either}
use Rattle.tables.proofs.Laws.{at_tabulate, tabulate_same}
use Rattle.pixel.specs.Strip.{is_whole, pixels_of}
use Rattle.pixel.proofs.Strips.{whole_means}
use Rattle.measuring.specs.Histogram.{pixel_limit, count_of, with_pixels}
use Rattle.measuring.proofs.Counts.{count_append}
use Rattle.shot.specs.Reachable.{Reachable}
use Rattle.shot.specs.Shot.{measure_checks, with_strip, measured}
use Rattle.shot.specs.declared.Answer.{Answer}
use Rattle.shot.specs.declared.Shot.{Shot}
use Rattle.shot.proofs.Answers.{measured_is}
use Rattle.shot.proofs.Empty.{empty_strips_change_nothing}
use Rattle.shot.proofs.Passed.{MeasuringAccepted, measure_passed}
use Rattle.shot.proofs.Premise.{within_limit}
use Rattle.pieces.specs.Pieces.{joined, EachWhole}
use Rattle.pieces.proofs.Whole.{first_whole, rest_whole, joined_whole}
use Rattle.pieces.proofs.Pieces.{pixels_append}
use Rattle.stream_curve.specs.StreamCurve.{measured_in_turn, AnyCuttingMeasuresAlike}

-- the counts with a whole strip's pixels, and then with another's, are those with the pixels of both put together
counts_together : (counts a b : List ℕ) → length a % 3 ≡ 0
    → with_pixels (with_pixels counts (pixels_of a)) (pixels_of b) ≡ with_pixels counts (pixels_of (a ++ b))
unfolding with_pixels
counts_together counts a b whole =
    tabulate_same _ _ 766
    (λ s h.
    omega (
      arith,
      at_tabulate (λ s. at counts s + count_of (pixels_of a) s) 766 s h,
      ap (λ ps. count_of ps s) (pixels_append a b whole),
      count_append (λ i. eqb i s) (pixels_of a) (pixels_of b),
    ))

-- and the shot with one strip and then the other is the shot with both put together
strips_together : (x : Shot) (a b : List ℕ) → length a % 3 ≡ 0 → with_strip (with_strip x a) b ≡ with_strip x (a ++ b)
strips_together x a b whole =
    let pixels : x.pixels + length a / 3 + length b / 3 ≡ x.pixels + length (a ++ b) / 3 = omega (arith, whole, length-append a b) in
    λ i. record { counts = counts_together x.counts a b whole i; pixels = pixels i; fixed = x.fixed; curve = x.curve }

-- a shot that accepts a strip is not fixed
accepted_unfixed : (x : Shot) (strip : List ℕ) → (measured x strip).number ≡ 0 → x.fixed ≡ false
unfolding measured
accepted_unfixed x strip ok =
    (none_applies (measure_checks x.fixed (is_whole (length strip)) (ltb pixel_limit (x.pixels + length strip / 3))) refl ok).0

-- A shot that is not fixed.
module _ (x : Shot) (unfixed : x.fixed ≡ false) where
  -- it goes on from a strip that it accepts
  goes_on : (strip : List ℕ) → MeasuringAccepted x strip → (strips : List (List ℕ))
      → measured_in_turn x (strip ∷ strips) ≡ measured_in_turn (with_strip x strip) strips
  goes_on strip ok strips = rw (measured_is x strip unfixed ok) refl

  -- it refuses whole pixels that it has no room for
  too_many : (strip : List ℕ) → length strip % 3 ≡ 0 → pixel_limit < x.pixels + length strip / 3 → (measured x strip).number ≡ 3
  unfolding measured
  too_many strip whole over = simp (unfixed, eq-eqb (length strip % 3) 0 whole, lt-ltb pixel_limit (x.pixels + length strip / 3) over)

-- The first of whole strips is accepted, if there is room for all of them.
first_accepted : (x : Shot) (strip : List ℕ) (strips : List (List ℕ)) → EachWhole (strip ∷ strips)
    → x.pixels + length (joined (strip ∷ strips)) / 3 ≤ pixel_limit → MeasuringAccepted x strip
first_accepted x strip strips whole room =
    record { whole = first_whole whole; room = omega (arith, length-append strip (joined strips), room) }

-- Then so are the others, and the shot has the pixels of all.
all_accepted : (x : Shot) (strip : List ℕ) (strips : List (List ℕ)) → x.fixed ≡ false → EachWhole (strip ∷ strips)
    → x.pixels + length (joined (strip ∷ strips)) / 3 ≤ pixel_limit
    → measured_in_turn x (strip ∷ strips) ≡ record { shot = with_strip x (joined (strip ∷ strips)); number = 0 }
all_accepted x strip [] unfixed whole room =
    goes_on x unfixed strip (first_accepted x strip [] whole room) []
    ∙ ap (λ (l : List ℕ). record { shot = with_strip x l; number = 0 }) (sym (append-nil strip))
all_accepted x strip (next ∷ others) unfixed whole room =
    let full = whole_means (length strip) (first_whole whole) in
    goes_on x unfixed strip (first_accepted x strip (next ∷ others) whole room) (next ∷ others)
    ∙ all_accepted (with_strip x strip) next others unfixed (rest_whole whole)
    (omega (arith, full, length-append strip (joined (next ∷ others)), room))
    ∙ ap (λ (y : Shot). record { shot = y; number = 0 }) (strips_together x strip (joined (next ∷ others)) full)

-- If there is not room for all of them, one is refused by 3.
one_too_many : (x : Shot) (strips : List (List ℕ)) → x.fixed ≡ false → EachWhole strips → x.pixels ≤ pixel_limit
    → pixel_limit < x.pixels + length (joined strips) / 3 → (measured_in_turn x strips).number ≡ 3
one_too_many x [] unfixed whole within over = absurd (omega arith)
one_too_many x (strip ∷ strips) unfixed whole within over =
    let full = whole_means (length strip) (first_whole whole) in
    either (x.pixels + length strip / 3) pixel_limit
    (λ room.
    ap (λ (a : Answer). a.number) (goes_on x unfixed strip (record { whole = first_whole whole; room = room }) strips)
    ∙ one_too_many (with_strip x strip) strips unfixed (rest_whole whole) room
    (omega (arith, full, length-append strip (joined strips), over)))
    (λ above.
    let three = too_many x unfixed strip full above in
    ap (λ (a : Answer). a.number)
    (refused_leaves (measured x strip).number (measured_in_turn (measured x strip).shot strips) (measured x strip) (λ e. omega (arith, three, e)))
    ∙ three)

-- What is accepted at once is accepted in turn, and leaves the same shot.
same_lem : (x : Shot) → Reachable x → (strips : List (List ℕ)) → EachWhole strips
    → (measured x (joined strips)).number ≡ 0 → measured_in_turn x strips ≡ measured x (joined strips)
same_lem x r [] whole ok = sym (empty_strips_change_nothing.measuring x r (accepted_unfixed x [] ok))
same_lem x r (strip ∷ strips) whole ok =
    let unfixed = accepted_unfixed x (joined (strip ∷ strips)) ok in
    let passed = measure_passed x (joined (strip ∷ strips)) ok in
    all_accepted x strip strips unfixed whole passed.room ∙ sym (measured_is x (joined (strip ∷ strips)) unfixed passed)

-- Both are refused by 3, or neither is.
number_lem : (x : Shot) → Reachable x → x.fixed ≡ false → (strips : List (List ℕ)) → EachWhole strips
    → (measured_in_turn x strips).number ≡ (measured x (joined strips)).number
number_lem x r unfixed strips whole =
    let full = joined_whole strips whole in
    either (x.pixels + length (joined strips) / 3) pixel_limit
    (λ room.
    let passed = measured_is x (joined strips) unfixed (record { whole = eq-eqb (length (joined strips) % 3) 0 full; room = room }) in
    ap (λ (a : Answer). a.number) (same_lem x r strips whole (ap (λ (a : Answer). a.number) passed)))
    (λ over. one_too_many x strips unfixed whole (within_limit r) over ∙ sym (too_many x unfixed (joined strips) full over))

pub any_cutting_measures_alike : AnyCuttingMeasuresAlike
any_cutting_measures_alike = record { number = number_lem; same = same_lem }
