-- The laws of the cube's targets.
use mathlib.Core.Path.{◌≡◌, refl}
use mathlib.Core.Logic.{⊎_elim}
use mathlib.Core.Bool.{Bool, ◌&&◌}
use mathlib.Core.List.{List}
use Prim.Native.Nat.{ℕ, zero, suc, ◌+◌, ◌*◌, ◌-◌, ◌≤◌, ◌<◌}
use native.Mathlib.Nat.{lt_trans, le_of_suc-le-suc, not-suc-le-zero, le_of_lt, eq-or-lt_of_le}
use native.Mathlib.Omega.{arith}
use lib.Dec.{T, leb, ltb, eqb, eqb→eq, ltb→lt, leb→le}
use lib.ListN.{length, get_or}
use Rattle.rounding.specs.Fraction.{Fraction, whole, ◌over◌, ◌⊗◌, ◌≼ᵇ◌, ◌≈◌}
use Rattle.tables.specs.Table.{tabulate}
use Rattle.tables.proofs.Laws.{is_tabulate}
use Rattle.targets.specs.Cube.{G, cubed}
use Rattle.targets.specs.Paper.{area, added₂, taken₂, taken₃}
use Rattle.targets.specs.Facts.{TargetsAreRight}
use Rattle.targets.proofs.EachBetween.{all_below, each_between, first_of_both, second_of_both}

-- a claim for each k up to 765, from its test
up_to765 : (test : ℕ → Bool) → T (all_below (λ i. test (0 + i)) 766) → (k : ℕ) → k ≤ 765 → T (test k)
up_to765 test passed k h = each_between test 0 766 passed k (omega arith) (omega arith)

-- whether two fractions are the same number, as a test
abbrev same_number : Fraction → Fraction → Bool
same_number x y = ltb 0 x.den && ltb 0 y.den && eqb (x.num * y.den) (y.num * x.den)

same_number_lem : (x y : Fraction) → T (same_number x y) → x ≈ y
same_number_lem x y h =
    let dens = first_of_both (ltb 0 x.den && ltb 0 y.den) _ h in (
      ltb→lt 0 x.den (first_of_both (ltb 0 x.den) _ dens),
      ltb→lt 0 y.den (second_of_both (ltb 0 x.den) _ dens),
      eqb→eq _ _ (second_of_both (ltb 0 x.den && ltb 0 y.den) _ h),
    )

-- the table: the test that is computed over all of it, and what it says
abbrev follows : List ℕ → ℕ → Bool
follows table k = eqb (get_or table k 0) (G k)

pub table_is : (table : List ℕ) → length table ≡ 766 → T (all_below (λ i. follows table (0 + i)) 766) → table ≡ tabulate G 766
table_is table size passed =
    is_tabulate G 766 table size
    (λ k h. eqb→eq (get_or table k 0) (G k) (up_to765 (follows table) passed k (omega arith)))

middle_exact : ℕ → Bool
middle_exact k = leb (2 * cubed k + 9 * (255 * 255) * k) (3 * cubed 255 + 9 * 255 * (k * k))

high_exact : ℕ → Bool
high_exact k = leb (cubed (765 - k)) (6 * cubed 255)

area₂_exact : ℕ → Bool
area₂_exact k = taken₂ (k over 255) ≼ᵇ added₂ (k over 255)

area₃_exact : ℕ → Bool
area₃_exact k = taken₃ (k over 255) ≼ᵇ whole 6

steps_up : ℕ → Bool
steps_up k = ltb (G k) (G (suc k))

by_equation_11 : ℕ → Bool
by_equation_11 k = same_number (whole (cubed 255) ⊗ area (k over 255)) (whole (G k))

-- what rises at each step below n rises from any place to any later one
rising : (g : ℕ → ℕ) (n : ℕ) → ((k : ℕ) → k < n → g k < g (suc k)) → (j k : ℕ) → j < k → k ≤ n → g j < g k
rising g n up j zero h l = absurd (not-suc-le-zero h)
rising g n up j (suc k) h l =
    ⊎_elim (λ e. rw e (up k l)) (λ m. lt_trans (rising g n up j k m (le_of_lt l)) (up k l)) (eq-or-lt_of_le (le_of_suc-le-suc h))

steps : (k : ℕ) → k < 765 → G k < G (suc k)
unfolding steps_up G
steps k h = ltb→lt (G k) (G (suc k)) (each_between steps_up 0 765 tt k (omega arith) (omega arith))

eq11 : (k : ℕ) → k ≤ 765 → whole (cubed 255) ⊗ area (k over 255) ≈ whole (G k)
unfolding by_equation_11 G area
eq11 k h = same_number_lem _ _ (up_to765 by_equation_11 tt k h)

pub targets_are_right : TargetsAreRight
unfolding G middle_exact high_exact area₂_exact area₃_exact
targets_are_right =
    record {
      agree_at255 = refl;
      agree_at510 = refl;
      middle_is_exact = λ k h. leb→le _ _ (up_to765 middle_exact tt k h);
      high_is_exact = λ k l h. leb→le _ _ (each_between high_exact 510 256 tt k l (omega arith));
      rises = rising G 765 steps;
      at0 = refl;
      at1 = refl;
      at255 = refl;
      at256 = refl;
      at510 = refl;
      at765 = refl;
      equation11 = eq11;
      area₂_is_exact = λ k h. leb→le _ _ (up_to765 area₂_exact tt k h);
      area₃_is_exact = λ k l h. (omega arith, leb→le _ _ (each_between area₃_exact 510 256 tt k l (omega arith)));
    }
