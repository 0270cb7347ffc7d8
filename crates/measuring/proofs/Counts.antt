-- Laws of counting pixels.
use mathlib.Core.Path.{◌≡◌, refl}
use mathlib.Core.Bool.{Bool, true, false, cond}
use mathlib.Core.List.{List, [], ◌∷◌, ◌++◌}
use Prim.Native.Nat.{ℕ, ◌+◌, ◌≤◌}
use native.Mathlib.Omega.{arith}
use lib.ListN.{length}
use Rattle.pixel.specs.Move.{intensity}
use Rattle.pixel.specs.declared.Pixel.{Pixel}
use Rattle.measuring.specs.Histogram.{count_where}

-- what a pixel counts, where the test of it gives this
abbrev pub one : Bool → ℕ
one t = cond t 1 0

one_le : (t : Bool) → one t ≤ 1
one_le true = omega arith
one_le false = omega arith

-- the count of more pixels
pub count_append : (test : ℕ → Bool) (ps qs : List Pixel) → count_where test (ps ++ qs) ≡ count_where test ps + count_where test qs
count_append test [] qs = omega arith
count_append test (p ∷ ps) qs = omega (arith, count_append test ps qs)

-- no more are counted than there are
pub count_le : (test : ℕ → Bool) (ps : List Pixel) → count_where test ps ≤ length ps
count_le test [] = omega arith
count_le test (p ∷ ps) = omega (arith, count_le test ps, one_le (test (intensity p)))

-- a test that no intensity passes less often counts no fewer
pub count_mono : (f g : ℕ → Bool) → ((i : ℕ) → one (f i) ≤ one (g i)) → (ps : List Pixel) → count_where f ps ≤ count_where g ps
count_mono f g le [] = omega arith
count_mono f g le (p ∷ ps) = omega (arith, count_mono f g le ps, le (intensity p))

-- tests of which every intensity that passes f passes just one count together what f counts
pub count_split : (f g h : ℕ → Bool) → ((i : ℕ) → one (f i) ≡ one (g i) + one (h i)) → (ps : List Pixel)
    → count_where f ps ≡ count_where g ps + count_where h ps
count_split f g h same [] = refl
count_split f g h same (p ∷ ps) = omega (arith, count_split f g h same ps, same (intensity p))
