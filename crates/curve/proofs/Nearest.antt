-- Laws of the nearest place: there is one and only one, it does not fall where the aim rises, and how a walk along the sequence finds it.
use mathlib.Core.Path.{◌≡◌}
use mathlib.Core.Logic.{⊎_elim}
use mathlib.Core.List.{List}
use Prim.Native.Nat.{ℕ, zero, suc, ◌+◌, ◌-◌, ◌≤◌, ◌<◌, zero-le}
use native.Mathlib.Nat.{le_antisymm, le_refl, le_trans, le_of_lt, lt_of_lt_of_le, le_of_suc-le-suc, not-suc-le-zero, eq-or-lt_of_le}
use native.Mathlib.Omega.{arith}
use borrow.Author.Tests.{lt-ltb, le-ltb}
use Rattle.tables.specs.Table.{at}
use Rattle.tables.proofs.Cases.{either}
use Rattle.measuring.specs.Histogram.{NonDecreasing}
use Rattle.curve.specs.Inner.{Bounding}
use Rattle.curve.specs.Nearest.{distance, Nearest, nearer, nearest_place, NearestMeans}

-- of two values b ≤ a, an aim that is nearer to a lies above their middle
above_middle : (a b aim : ℕ) → b ≤ a → distance a aim < distance b aim → (b < a) × (a + b < aim + aim)
above_middle a b aim h p = omega arith

-- and one that is not lies at most there
below_middle : (a b aim : ℕ) → b < a → distance b aim ≤ distance a aim → aim + aim ≤ a + b
below_middle a b aim h p = omega arith

-- so an aim nearer to the greater value and a larger one that is not cannot be
clash : (a b aim aim' : ℕ) → b ≤ a → aim ≤ aim' → distance a aim < distance b aim → distance b aim' ≤ distance a aim' → ⊥
clash a b aim aim' h l p q =
    let (less, above) = above_middle a b aim h p in
    let below = below_middle a b aim' less q in
    omega arith

-- where g does not fall, a larger aim has no smaller place
pub nearest_mono : {g : ℕ → ℕ} {aim aim' k k' : ℕ} → NonDecreasing g → aim ≤ aim' → Nearest g 765 aim k → Nearest g 765 aim' k' → k ≤ k'
nearest_mono {g} {aim} {aim'} {k} {k'} up h a b =
    either k k' (λ p. p)
    (λ q.
    absurd
    (clash (g k) (g k') aim aim' (up k' k (le_of_lt q) a.within) h (a.first k' q) (b.least k a.within)))

-- of two nearest places neither comes first
not_before : {g : ℕ → ℕ} {n aim k k' : ℕ} → Nearest g n aim k → Nearest g n aim k' → k ≤ k'
not_before {g} {n} {aim} {k} {k'} a b =
    either k k' (λ p. p) (λ q. omega (arith, a.first k' q, b.least k a.within))

-- so there is one nearest place
nearest_unique : {g : ℕ → ℕ} {n aim k k' : ℕ} → Nearest g n aim k → Nearest g n aim k' → k ≡ k'
nearest_unique a b = le_antisymm (not_before a b) (not_before b a)

-- one place more: the nearer of it and of the nearest place so far
nearer_is : (g : ℕ → ℕ) (n aim k : ℕ) → Nearest g n aim k → Nearest g (suc n) aim (nearer g aim (suc n) k)
unfolding nearer
nearer_is g n aim k a = either (distance (g k) aim) (distance (g (suc n)) aim) keep move
  where
    keep : distance (g k) aim ≤ distance (g (suc n)) aim → Nearest g (suc n) aim (nearer g aim (suc n) k)
    keep h =
        rw (le-ltb (distance (g (suc n)) aim) (distance (g k) aim) h)
        (record {
          within = omega (arith, a.within);
          least = λ j l. ⊎_elim (λ e. rw e h) (λ m. a.least j (le_of_suc-le-suc m)) (eq-or-lt_of_le l);
          first = a.first;
        })

    move : distance (g (suc n)) aim < distance (g k) aim → Nearest g (suc n) aim (nearer g aim (suc n) k)
    move h =
        rw (lt-ltb (distance (g (suc n)) aim) (distance (g k) aim) h)
        (record {
          within = le_refl (suc n);
          least = λ j l.
              ⊎_elim (λ e. rw e (le_refl _)) (λ m. le_trans (le_of_lt h) (a.least j (le_of_suc-le-suc m))) (eq-or-lt_of_le l);
          first = λ j l. lt_of_lt_of_le h (a.least j (le_of_suc-le-suc l));
        })

-- trying one place after the other finds it
pub nearest_is : (g : ℕ → ℕ) (n aim : ℕ) → Nearest g n aim (nearest_place g n aim)
unfolding nearest_place
nearest_is g zero aim =
    record {
      within = le_refl 0;
      least = λ j h. let e : j ≡ 0 = omega arith in rw e (le_refl _);
      first = λ j h. absurd (not-suc-le-zero h);
    }
nearest_is g (suc n) aim = nearer_is g n aim (nearest_place g n aim) (nearest_is g n aim)

pub nearest_means : NearestMeans
nearest_means g n aim k = (λ a. nearest_unique a (nearest_is g n aim), λ e. rw e (nearest_is g n aim))

-- it is one of the places
pub nearest_le : (g : ℕ → ℕ) (n aim : ℕ) → nearest_place g n aim ≤ n
nearest_le g n aim = (nearest_is g n aim).within

-- sequences that agree at 0 to n have one nearest place
pub nearest_same : (g g' : ℕ → ℕ) (n aim : ℕ) → ((k : ℕ) → k ≤ n → g k ≡ g' k) → nearest_place g n aim ≡ nearest_place g' n aim
nearest_same g g' n aim same = nearest_unique (carry (nearest_is g n aim)) (nearest_is g' n aim)
  where
    carry : {k : ℕ} → Nearest g n aim k → Nearest g' n aim k
    carry {k} a =
        record {
          within = a.within;
          least = λ j h. rw (← same k a.within, ← same j h) (a.least j h);
          first = λ j h. rw (← same k a.within, ← same j (le_trans (le_of_lt h) a.within)) (a.first j h);
        }

-- The four ends: `lower` and `upper` are the bounds of the aim.
module _ (g : List ℕ) (aim lower upper : ℕ) (up : NonDecreasing (at g)) (b : Bounding g aim lower upper) where
  open b use {level, below, above}

  -- no place is below the aim
  pub found_start : upper ≡ 0 → 0 ≡ nearest_place (at g) 765 aim
  found_start e =
      nearest_unique (record {
        within = zero-le;
        least = λ j h. omega (arith, above 0 (omega arith) (omega arith), up 0 j zero-le h);
        first = λ j h. absurd (not-suc-le-zero h);
      }) (nearest_is (at g) 765 aim)

  module _ (some : upper ≡ 0 → ⊥) where
    -- `lower` stands before `upper`, and holds less than the aim
    before : lower < upper
    before = level.inside (omega arith)

    pub lower_below : at g lower < aim
    lower_below = below lower before

    -- no place before `upper` holds more
    before_upper : (j : ℕ) → j < upper → at g j ≤ at g lower
    before_upper j h =
        either lower j (λ q. omega (arith, level.level j q h)) (λ q. omega (arith, level.less j q))

    -- `lower` is the nearest place, if the aim is at most in the middle between it and every place from `upper` on
    take_lower : ((j : ℕ) → upper ≤ j → j ≤ 765 → aim + aim ≤ at g j + at g lower) → lower ≡ nearest_place (at g) 765 aim
    take_lower middle =
        nearest_unique (record {
          within = omega (arith, before, level.within);
          least = λ j h.
              either upper j
              (λ q. omega (arith, lower_below, middle j q h, above j q h))
              (λ q. omega (arith, lower_below, before_upper j q));
          first = λ j h. omega (arith, lower_below, level.less j h);
        }) (nearest_is (at g) 765 aim)

    -- no place holds as much as the aim
    pub found_past : 766 ≤ upper → lower ≡ nearest_place (at g) 765 aim
    found_past h = take_lower (λ j q i. omega arith)

    module _ (h : upper < 766) where
      -- `upper` holds at least the aim
      pub upper_above : aim ≤ at g upper
      upper_above = above upper (le_refl upper) (omega arith)

      -- and is the nearer
      pub found_upper : at g upper - aim < aim - at g lower → upper ≡ nearest_place (at g) 765 aim
      found_upper q =
          nearest_unique (record {
            within = omega arith;
            least = λ j i.
                either upper j
                (λ m. omega (arith, upper_above, up upper j m i))
                (λ m. omega (arith, upper_above, lower_below, q, before_upper j m));
            first = λ j m. omega (arith, upper_above, lower_below, q, before_upper j m);
          }) (nearest_is (at g) 765 aim)

      -- or is not
      pub found_lower : aim - at g lower ≤ at g upper - aim → lower ≡ nearest_place (at g) 765 aim
      found_lower q = take_lower (λ j m i. omega (arith, upper_above, lower_below, q, up upper j m i))
