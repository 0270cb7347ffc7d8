-- `curve::tone_curve` meets its contract.
use native.Mathlib.Nat.{le_trans, le_of_eq}
use native.Mathlib.Omega.{arith}
use Rattle.tables.specs.Table.{at}
use Rattle.tables.proofs.Laws.{at_table}
use Rattle.targets.specs.Cube.{G}
use Rattle.measuring.specs.Histogram.{cumulative}
use Rattle.measuring.proofs.Cumulative.{cumulative_is_cumulative}
use Rattle.curve.proofs.Curve.{full_le, G-le, shares_fit, aims_fit, scaled_non_decreasing, shares_non_decreasing, cube_curve, equalised_curve}
use Rattle.curve.proofs.Histogram.{histogram_is_cumulative}
use Rattle.curve.proofs.tone_curve.Goals as goal

pub scaled_by-scaled-requires : goal.scaled_by-scaled-requires
scaled_by-scaled-requires c =
    (rw c.full_count-full.ensures (full_le c.requires.most), c.table-cube.ensures)

pub invariant_of-targets : goal.invariant_of-targets
invariant_of-targets c = record {
  never_falls = scaled_non_decreasing c.full_count-full.result _ c.scaled_by-scaled.ensures;
}

pub invariant_of-shares : goal.invariant_of-shares
invariant_of-shares c = record {
  never_falls = shares_non_decreasing (cumulative c.args.counts.now) _ c.shares_of-shares.ensures
      (cumulative_is_cumulative c.args.counts.now);
}

pub nearest_entries-requires : goal.nearest_entries-requires
nearest_entries-requires c =
    let histogram = c.requires in
    let full = c.full_count-full.result in
    let shares = c.shares_of-shares.result in
    let fit = shares_fit c.args.pixels (cumulative c.args.counts.now) full shares c.full_count-full.ensures
    c.shares_of-shares.ensures histogram.some histogram.most (histogram_is_cumulative histogram) in
    let top = at_table G 766 c.table-cube.result c.table-cube.ensures 765 (omega arith) in
    aims_fit full shares fit (at c.table-cube.result 765) (le_trans (le_of_eq top) (G-le 765 (omega arith)))

pub equalised_entries-requires : goal.equalised_entries-requires
equalised_entries-requires c =
    let histogram = c.requires in
    shares_fit c.args.pixels (cumulative c.args.counts.now) c.full_count-full.result
    c.shares_of-shares.result c.full_count-full.ensures c.shares_of-shares.ensures histogram.some histogram.most
    (histogram_is_cumulative histogram)

pub returns-in-Cube : goal.returns-in-Cube
returns-in-Cube c =
    let top = at_table G 766 c.table-cube.result c.table-cube.ensures 765 (omega arith) in
    let N = c.args.pixels in
    let H = cumulative c.args.counts.now in
    rw c.in-Cube.is
    (cube_curve N H c.full_count-full.result c.shares_of-shares.result c.full_count-full.ensures
    c.shares_of-shares.ensures c.scaled_by-scaled.result c.scaled_by-scaled.ensures (at c.table-cube.result 765)
    c.nearest_entries.result c.with_ends.result top c.nearest_entries.ensures c.with_ends.ensures)

pub returns-in-Equalised : goal.returns-in-Equalised
returns-in-Equalised c =
    let N = c.args.pixels in
    let H = cumulative c.args.counts.now in
    rw c.in-Equalised.is
    (equalised_curve N H c.full_count-full.result c.shares_of-shares.result c.full_count-full.ensures
    c.shares_of-shares.ensures c.equalised_entries.result c.with_ends-in-Equalised.result c.equalised_entries.ensures
    c.with_ends-in-Equalised.ensures)
