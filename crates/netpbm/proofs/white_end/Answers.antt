-- `netpbm::white_end` meets its contract.
use Rattle.std.proofs.Common.{refl, sym, ◌∙◌, arith}
use Rattle.scanning.specs.Scanning.{starts_comment}
use Rattle.netpbm.proofs.Bytes.{byte_within}
use Rattle.netpbm.proofs.WhiteSpace.{left_first, line_goes_on, left_more, left_none}
use Rattle.netpbm.proofs.white_end.Goals as goal

pub loop-end-init : goal.loop-end-init
loop-end-init c = left_first _ _ _ c.run_end-end.ensures

pub loop-end-smaller : goal.loop-end-smaller
loop-end-smaller c =
    let hash = sym c.comment_at.ensures ∙ c.loop-end-test.true in
    omega (arith, line_goes_on c.args.bytes.now _ _ hash c.comment_end.ensures, byte_within starts_comment refl c.args.bytes.now _ hash, c.run_end-end-in-loop-end.ensures)

pub loop-end-preserved : goal.loop-end-preserved
loop-end-preserved c =
    let hash = sym c.comment_at.ensures ∙ c.loop-end-test.true in
    left_more _ _ _ hash c.comment_end.ensures _ _ c.loop-end.invariant c.run_end-end-in-loop-end.ensures

pub returns : goal.returns
returns c = left_none _ _ _ c.loop-end.invariant (sym c.comment_at.ensures ∙ c.loop-end-test.false)
