-- H of pixels, and of their tally.
use mathlib.Core.Path.{◌≡◌, refl, sym}
use mathlib.Core.List.Memᴰ
use mathlib.Core.List.{List, [], ◌∷◌}
use mathlib.Core.Logic.{⊎_elim}
use Prim.Native.Nat.{ℕ, zero, suc, ◌+◌, ◌≤◌, ◌<◌, suc-le-suc}
use native.Mathlib.Nat.{le_refl, le_trans, le_of_eq, le-add_right, le_of_suc-le-suc, eq-or-lt_of_le}
use native.Mathlib.Omega.{arith}
use borrow.Author.Tests.{le-leb, lt-leb, eq-eqb, ne_eqb}
use lib.Dec.{leb, eqb}
use lib.ListN.{length}
use Rattle.tables.specs.Table.{at}
use Rattle.tables.proofs.Cases.{either}
use Rattle.pixel.specs.Move.{intensity}
use Rattle.pixel.specs.declared.Pixel.{Pixel}
use Rattle.measuring.specs.Histogram.{count_up_to, sum_of_first, cumulative, TalliesGiveH, IsCumulative, Counted, HIsCumulative}
use Rattle.measuring.proofs.Counts.{one, count_mono, count_split}

-- the sum of more counts is no less
sum_rises : (counts : List ℕ) (m n : ℕ) → m ≤ n → sum_of_first counts m ≤ sum_of_first counts n
unfolding sum_of_first
sum_rises counts m zero h = let e : m ≡ 0 = omega arith in rw e (le_refl _)
sum_rises counts m (suc n) h =
    ⊎_elim (λ e. rw e (le_refl _)) (λ l. le_trans (sum_rises counts m n (le_of_suc-le-suc l)) (le-add_right _ _))
    (eq-or-lt_of_le h)

-- the sum of no counts
pub sum_start : (counts : List ℕ) → 0 ≡ sum_of_first counts 0
unfolding sum_of_first
sum_start counts = refl

-- the sum of one count more
pub sum_next : (counts : List ℕ) (n sum count : ℕ) → sum ≡ sum_of_first counts n → count ≡ at counts n
    → sum + count ≡ sum_of_first counts (suc n)
unfolding sum_of_first
sum_next counts n sum count e f = rw (e, f)

-- the cumulative counts of a tally are a cumulative histogram
pub cumulative_is_cumulative : (counts : List ℕ) → IsCumulative (cumulative counts 765) (cumulative counts)
cumulative_is_cumulative counts =
    record { never_falls = λ s t h l. sum_rises counts (suc s) (suc t) (suc-le-suc h); last = refl }

-- an intensity of at most s + 1 is at most s, or s + 1
up_to_next : (s i : ℕ) → one (leb i (suc s)) ≡ one (leb i s) + one (eqb i (suc s))
up_to_next s i =
    either i s
    (λ (l : i ≤ s). simp (le-leb i s l, le-leb i (suc s) (omega arith), ne_eqb i (suc s) (λ e. omega arith)))
    (λ (l : s < i).
    either i (suc s)
    (λ (k : i ≤ suc s). simp (lt-leb i s l, le-leb i (suc s) k, eq-eqb i (suc s) (omega arith)))
    (λ (k : suc s < i). simp (lt-leb i s l, lt-leb i (suc s) k, ne_eqb i (suc s) (λ e. omega arith))))

-- an intensity of at most 0 is 0
up_to_zero : (i : ℕ) → one (leb i 0) ≡ one (eqb i 0)
up_to_zero i =
    either i 0 (λ (l : i ≤ 0). simp (le-leb i 0 l, eq-eqb i 0 (omega arith)))
    (λ (l : 0 < i). simp (lt-leb i 0 l, ne_eqb i 0 (λ e. omega arith)))

pub tallies_give_h : TalliesGiveH
unfolding sum_of_first
tallies_give_h counts ps same zero h =
    omega (
      arith,
      same 0 h,
      count_mono (λ i. leb i 0) (λ i. eqb i 0) (λ i. le_of_eq (up_to_zero i)) ps,
      count_mono (λ i. eqb i 0) (λ i. leb i 0) (λ i. le_of_eq (sym (up_to_zero i))) ps,
    )
tallies_give_h counts ps same (suc s) h =
    omega (
      arith,
      tallies_give_h counts ps same s (omega arith),
      same (suc s) h,
      count_split (λ i. leb i (suc s)) (λ i. leb i s) (λ i. eqb i (suc s)) (up_to_next s) ps,
    )

-- what is at most s is at most t
up_to_rises : (s t : ℕ) → s ≤ t → (i : ℕ) → one (leb i s) ≤ one (leb i t)
up_to_rises s t h i =
    either i s (λ (l : i ≤ s). simp (le-leb i s l, le-leb i t (omega arith)) (omega arith)) (λ (l : s < i). simp (lt-leb i s l) (omega arith))

-- no intensity is above 765
up_to_last : (ps : List Pixel) → Counted ps → count_up_to ps 765 ≡ length ps
up_to_last [] all = refl
up_to_last (p ∷ ps) all =
    simp (le-leb (intensity p) 765 (all p (Memᴰ.head refl))) (omega (arith, up_to_last ps (λ q m. all q (Memᴰ.tail m))))

pub h_is_cumulative : HIsCumulative
h_is_cumulative ps all =
    record { never_falls = λ s t h _. count_mono (λ i. leb i s) (λ i. leb i t) (up_to_rises s t h) ps; last = up_to_last ps all }
