-- `curve::shares_of` meets its contract. (Without this the invariant after one more count stays open.)
use mathlib.Core.Path.{ap₂, ◌∙◌}
use native.Mathlib.Numerals.{add-one}
use native.Mathlib.Omega.{arith}
use Rattle.tables.proofs.Filling.{filled_more}
use Rattle.measuring.proofs.Cumulative.{sum_next}
use Rattle.curve.specs.Curve.{share_count}
use Rattle.curve.proofs.Histogram.{previous_cumulative}
use Rattle.curve.proofs.shares_of.Goals as goal

pub loop-s-preserved : goal.loop-s-preserved
loop-s-preserved c =
    let counts = c.args.counts.now in
    let sum = c.loop-s.invariant.1 in
    let next = sum_next counts c.loop-s.s c.loop-s.below c.from.result sum c.from.ensures in (
      filled_more _ 766 _ _ _ c.loop-s.invariant.0 c.loop-s-test.true
          (c.share_count.ensures ∙ ap₂ share_count (sum ∙ previous_cumulative counts c.loop-s.s) next),
      rw add-one next,
      omega arith,
    )
