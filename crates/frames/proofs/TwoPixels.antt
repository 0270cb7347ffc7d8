-- The curves of one pixel of intensity 300 and one of 600, by both choices.
use mathlib.Core.Path.{◌≡◌, refl, sym, ap, ◌∙◌}
use mathlib.Core.Bool.{cond}
use mathlib.Core.List.{List, [], ◌∷◌, map}
use Prim.Native.Nat.{ℕ, zero, suc, ◌+◌, ◌≤◌, zero-le}
use native.Mathlib.Omega.{arith}
use lib.Dec.{leb}
use lib.ListN.{length, length-map}
use Rattle.rounding.specs.Near.{near}
use Rattle.tables.specs.Table.{tabulate}
use Rattle.tables.proofs.Laws.{tabulate_same}
use Rattle.targets.specs.Cube.{G}
use Rattle.pixel.specs.Move.{intensity}
use Rattle.pixel.specs.declared.Pixel.{Pixel}
use Rattle.curve.specs.Curve.{share_count, full_count, previous, cube_entry, equalised_entry, by_choice, with_ends, entry, tone_curve}
use Rattle.curve.specs.Nearest.{nearer, nearest_place}
use Rattle.curve.specs.declared.Choice.{Choice}
use Rattle.curve.specs.declared.Choice.TheVariants.{Cube, Equalised}
use Rattle.curve.proofs.Curve.{tone_curve_same}
use Rattle.measuring.specs.Histogram.{count_up_to}
use Rattle.measuring.proofs.Counts.{count_le}
use Rattle.frames.specs.Starred.{five_levels}

-- the entry for a share of h in four, where a, b and c are those for one, two and three
abbrev level : (a b c : ℕ) → ℕ → ℕ
level a b c zero = 0
level a b c (suc zero) = a
level a b c (suc (suc zero)) = b
level a b c (suc (suc (suc zero))) = c
level a b c (suc (suc (suc (suc h)))) = 765

-- those for one, two and three, by each choice
abbrev low : Choice → ℕ
low Cube = 293
low Equalised = 191

abbrev middle : Choice → ℕ
middle Cube = 382
middle Equalised = 383

abbrev high : Choice → ℕ
high Cube = 472
high Equalised = 574

-- that is the entry
level_is : (choice : Choice) (h : ℕ) → h ≤ 4 → by_choice choice 4 h ≡ level (low choice) (middle choice) (high choice) h
unfolding cube_entry nearest_place nearer G equalised_entry near
level_is Cube zero l = refl
level_is Cube (suc zero) l = refl
level_is Cube (suc (suc zero)) l = refl
level_is Cube (suc (suc (suc zero))) l = refl
level_is Cube (suc (suc (suc (suc zero)))) l = refl
level_is Equalised zero l = refl
level_is Equalised (suc zero) l = refl
level_is Equalised (suc (suc zero)) l = refl
level_is Equalised (suc (suc (suc zero))) l = refl
level_is Equalised (suc (suc (suc (suc zero)))) l = refl
level_is choice (suc (suc (suc (suc (suc h))))) l = absurd (omega arith)

-- how many of some intensities are at most s
abbrev up_to : List ℕ → ℕ → ℕ
up_to [] s = 0
up_to (i ∷ rest) s = cond (leb i s) 1 0 + up_to rest s

-- a count of pixels reads their intensities alone
count_reads : (ps : List Pixel) (s : ℕ) → count_up_to ps s ≡ up_to (map intensity ps) s
count_reads [] s = refl
count_reads (p ∷ ps) s = ap (λ (n : ℕ). cond (leb (intensity p) s) 1 0 + n) (count_reads ps s)

-- what no count exceeds, none before an intensity does
before_le : (H : ℕ → ℕ) (n : ℕ) → ((s : ℕ) → H s ≤ n) → (s : ℕ) → previous H s ≤ n
before_le H n le zero = zero-le
before_le H n le (suc s) = le s

-- what these intensities count for s, half of its own
abbrev counted : List ℕ → ℕ → ℕ
counted intensities s = up_to intensities s + previous (up_to intensities) s

-- the entries, one for each intensity, are the five levels
abbrev AreLevels : List ℕ → Type 0
AreLevels intensities = (a b c : ℕ) → tabulate (with_ends (λ s. level a b c (counted intensities s))) 766 ≡ five_levels a b c

pub rising_levels : AreLevels (300 ∷ 600 ∷ [])
unfolding tabulate with_ends five_levels
rising_levels a b c = refl

pub falling_levels : AreLevels (600 ∷ 300 ∷ [])
unfolding tabulate with_ends five_levels
falling_levels a b c = refl

-- the curve, by each choice
pub two_pixel_curve : (choice : Choice) (i j : ℕ) → AreLevels (i ∷ j ∷ []) → (ps : List Pixel) → map intensity ps ≡ i ∷ j ∷ []
    → tone_curve choice (length ps) (count_up_to ps) ≡ five_levels (low choice) (middle choice) (high choice)
unfolding tone_curve entry with_ends share_count full_count
two_pixel_curve choice i j levels ps same =
    let both = i ∷ j ∷ [] in
    let two : length ps ≡ 2 = sym (length-map ps intensity) ∙ ap length same in
    let reads : (s : ℕ) → count_up_to ps s ≡ up_to both s = λ s. count_reads ps s ∙ ap (λ (l : List ℕ). up_to l s) same in
    let most : (s : ℕ) → up_to both s ≤ 2 = λ s. omega (arith, reads s, count_le (λ i. leb i s) ps, two) in
    rw two
    (tone_curve_same choice 2 (count_up_to ps) (up_to both) (λ s _. reads s)
    ∙ tabulate_same (entry choice 2 (up_to both)) (with_ends (λ s. level (low choice) (middle choice) (high choice) (counted both s))) 766
    (λ s _. rw (level_is choice (counted both s) (omega (arith, most s, before_le (up_to both) 2 most s))))
    ∙ levels (low choice) (middle choice) (high choice))
