-- The witness of demand 3's claim, by computation.
use mathlib.Core.Path.{◌≡◌, refl, subst, sym}
use mathlib.Core.Bool.{Bool, true, ◌&&◌}
use mathlib.Core.List.Memᴰ
use mathlib.Core.List.{List, [], ◌∷◌}
use mathlib.Core.Logic.{⊎_elim}
use Prim.Native.Nat.{ℕ, zero, suc}
use native.Mathlib.Omega.{arith}
use lib.Dec.{T, ltb, ltb→lt}
use Rattle.rounding.specs.Near.{near}
use Rattle.tables.specs.Table.{tabulate, ◌among◌}
use Rattle.targets.specs.Cube.{G}
use Rattle.targets.proofs.EachBetween.{first_of_both, second_of_both}
use Rattle.pixel.specs.Move.{moved, moved_sample, naik_murthy, yang_lee}
use Rattle.pixel.specs.Strip.{Bytes}
use Rattle.curve.specs.Curve.{share_count, full_count, cube_entry, equalised_entry, with_ends, entry, tone_curve, curve_of}
use Rattle.curve.specs.Nearest.{nearer, nearest_place}
use Rattle.measuring.specs.Histogram.{with_pixels, sum_of_first}
use Rattle.settings.specs.Setting.{mixed}
use Rattle.dial.specs.Dial.{whole_of}
use Rattle.colouring.specs.Colouring.{coloured_under}
use Rattle.shot.specs.Shot.{opened, measured, fixed_with, coloured}
use Rattle.book.specs.Book.{Call, Call.opening, Call.measuring, Call.fixing, Call.colouring}
use Rattle.book.specs.Reading.{stop, held_intensity}
use Rattle.book.specs.Run.{WellFormed}
use Rattle.witness.specs.Calls.{calls, WitnessRuns}

-- a test for bytes, and for what a call brings
abbrev are_bytes : List ℕ → Bool
are_bytes [] = true
are_bytes (x ∷ rest) = ltb x 256 && are_bytes rest

bytes : (list : List ℕ) → T (are_bytes list) → Bytes list
bytes [] h i = omega arith
bytes (x ∷ rest) h zero = ltb→lt x 256 (first_of_both (ltb x 256) (are_bytes rest) h)
bytes (x ∷ rest) h (suc i) = bytes rest (second_of_both (ltb x 256) (are_bytes rest) h) i

abbrev is_well_formed : Call → Bool
is_well_formed opening = true
is_well_formed (measuring strip) = are_bytes strip
is_well_formed (fixing choice) = true
is_well_formed (colouring q) = are_bytes q.source

well_formed_lem : (c : Call) → T (is_well_formed c) → WellFormed c
well_formed_lem opening h = tt
well_formed_lem (measuring strip) h = bytes strip h
well_formed_lem (fixing choice) h = tt
well_formed_lem (colouring q) h = bytes q.source h

abbrev are_well_formed : List Call → Bool
are_well_formed [] = true
are_well_formed (c ∷ cs) = is_well_formed c && are_well_formed cs

all_well_formed : (list : List Call) → T (are_well_formed list) → (c : Call) → c among list → WellFormed c
all_well_formed [] h c m = absurd (Memᴰ.not-nil m)
all_well_formed (d ∷ rest) h c m =
    ⊎_elim (λ (e : c ≡ d). subst WellFormed (sym e) (well_formed_lem d (first_of_both (is_well_formed d) (are_well_formed rest) h)))
    (λ (n : c among rest). all_well_formed rest (second_of_both (is_well_formed d) (are_well_formed rest) h) c n)
    (Memᴰ.cases_cons m)

pub witness_runs : WitnessRuns
unfolding calls opened measured fixed_with coloured whole_of stop held_intensity with_pixels tabulate coloured_under mixed moved moved_sample naik_murthy yang_lee near tone_curve entry with_ends cube_entry equalised_entry share_count full_count sum_of_first nearer nearest_place G curve_of
witness_runs = record { well_formed = all_well_formed calls tt; numbers = refl; pixels = refl; settings = refl; bytes = refl }
