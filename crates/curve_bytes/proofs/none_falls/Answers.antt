-- `curve_bytes::none_falls` meets its contract.
use mathlib.Core.Path.{◌≡◌, sym, ◌∙◌}
use native.Mathlib.Omega.{arith}
use borrow.Author.Rules.{rules}
use lib.ListN.{length}
use Rattle.curve_bytes.proofs.CurveBytes.{falls_more, falls_end}
use Rattle.curve_bytes.proofs.none_falls.Goals as goal

pub loop-entry-preserved : goal.loop-entry-preserved
loop-entry-preserved c =
    let size : length c.args.curve.now ≡ 766 = search rules in
    falls_more c.args.curve.now c.loop-entry.entry-index c.loop-entry.before c.loop-entry.rises (omega (arith, size, c.loop-entry-test.true))
    ∙ c.loop-entry.invariant

pub returns : goal.returns
returns c =
    let size : length c.args.curve.now ≡ 766 = search rules in
    sym (falls_end c.args.curve.now c.loop-entry.entry-index c.loop-entry.before c.loop-entry.rises (omega (arith, size, c.loop-entry-test.false)))
    ∙ c.loop-entry.invariant
