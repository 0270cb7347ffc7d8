-- The histogram that a curve is made from.
use mathlib.Core.Path.{◌≡◌, refl, sym, subst, ◌∙◌}
use mathlib.Core.List.{List}
use Prim.Native.Nat.{ℕ, zero, suc, ◌^◌, ◌≤◌, ◌<◌}
use native.Mathlib.Omega.{arith}
use lib.ListN.{length}
use Rattle.tables.specs.Table.{at}
use Rattle.pixel.specs.declared.Pixel.{Pixel}
use Rattle.measuring.specs.Histogram.{count_of, sum_of_first, cumulative, IsCumulative, Counted}
use Rattle.measuring.proofs.Cumulative.{sum_start, cumulative_is_cumulative, tallies_give_h, h_is_cumulative}
use Rattle.curve.specs.Curve.{previous}
use Rattle.curve.specs.Inner.{HistogramOf}

-- H(s − 1)
pub previous_cumulative : (counts : List ℕ) (s : ℕ) → sum_of_first counts s ≡ previous (cumulative counts) s
previous_cumulative counts zero = sym (sum_start counts)
previous_cumulative counts (suc s) = refl

-- counts that add up to n
pub histogram_is_cumulative : {n : ℕ} {counts : List ℕ} → HistogramOf n counts → IsCumulative n (cumulative counts)
histogram_is_cumulative {n} {counts} h =
    subst (λ (m : ℕ). IsCumulative m (cumulative counts)) h.all (cumulative_is_cumulative counts)

-- for callers: the tally of some pixels adds up to their number
pub tally_is_histogram : (counts : List ℕ) (ps : List Pixel) → ((s : ℕ) → s ≤ 765 → at counts s ≡ count_of ps s) → Counted ps
    → 0 < length ps → length ps ≤ 2 ^ 31 → HistogramOf (length ps) counts
tally_is_histogram counts ps same counted some most =
    record { all = tallies_give_h counts ps same 765 (omega arith) ∙ (h_is_cumulative ps counted).last; some = some; most = most }
