-- The invariant of `curve::shares_of`.
use mathlib.Core.Path.{◌≡◌}
use Prim.Native.Nat.{◌*◌, ◌^◌, ◌≤◌}
use Rattle.tables.proofs.Filling.{Filled}
use Rattle.measuring.specs.Histogram.{sum_of_first, cumulative}
use Rattle.curve.specs.Curve.{share_at}
use Rattle.curve.proofs.shares_of.Given as goal

abbrev pub invariant-loop-s : goal.invariant-loop-s
invariant-loop-s l =
    Filled (share_at (cumulative l.counts)) 766 l.shares l.s × (l.below ≡ sum_of_first l.counts l.s) × (l.below ≤ l.s * 2 ^ 32)
