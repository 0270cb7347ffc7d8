-- The invariant of `measuring::count_strip`.
use mathlib.Core.Path.{◌≡◌}
use Prim.Native.Nat.{◌*◌}
use lib.ListN.{length}
use Rattle.pixel.specs.Strip.{pixels_of}
use Rattle.measuring.specs.Inner.{sum_of_four}
use Rattle.measuring.proofs.Counting.{Counting}
use Rattle.measuring.proofs.count_strip.Given as goal

abbrev pub invariant-loop-a : goal.invariant-loop-a
invariant-loop-a l =
    (length l.first ≡ 766)
    × (length l.second ≡ 766)
    × (length l.third ≡ 766)
    × (length l.fourth ≡ 766)
    × Counting l.initial.first (pixels_of l.strip) (sum_of_four l.first l.second l.third l.fourth) (4 * l.a-index)
