-- `curve_bytes::write_curve` meets its contract.
use Rattle.std.proofs.Common.{◌≡◌, sym, ap, subst, ◌∙◌, List, ℕ, ◌+◌, ◌*◌, ◌<◌, ◌^◌, length, get_or, arith, rules}
use Rattle.tables.specs.Table.{at}
use Rattle.tables.proofs.Filling.{Filled, filled_start, filled_more, filled_copy}
use Rattle.curve_bytes.specs.CurveBytes.{curve_bytes}
use Rattle.curve_bytes.proofs.CurveBytes.{length_bytes, low_at, high_at}
use Rattle.curve_bytes.proofs.write_curve.Goals as goal

pub loop-k-init : goal.loop-k-init
loop-k-init c = filled_start _ 1532 _ (search rules)

pub loop-k-preserved : goal.loop-k-preserved
loop-k-preserved c =
    let curve = c.args.curve.now in
    let k = c.loop-k.k in
    let small : at curve k < 2 ^ 16 = search rules in
    let first : get_or c.to_le_bytes.result 0 0 ≡ at (curve_bytes curve) (2 * k) =
    ap (λ (pair : List ℕ). get_or pair 0 0) c.to_le_bytes.ensures ∙ sym (low_at curve k) in
    let second : get_or c.to_le_bytes.result 1 0 ≡ at (curve_bytes curve) (2 * k + 1) =
    omega (arith, ap (λ (pair : List ℕ). get_or pair 1 0) c.to_le_bytes.ensures, high_at curve k, small) in
    let low = filled_more _ 1532 _ (2 * k) _ c.loop-k.invariant (omega arith) first in
    let high = filled_more _ 1532 _ (2 * k + 1) _ low (omega arith) second in
    subst (Filled (at (curve_bytes curve)) 1532 _) (omega arith) high

pub returns : goal.returns
returns c =
    let curve = c.args.curve.now in
    let size : length curve ≡ 766 = search rules in
    filled_copy (curve_bytes curve) 1532 _ c.loop-k.invariant (omega arith) (omega (arith, length_bytes curve))
