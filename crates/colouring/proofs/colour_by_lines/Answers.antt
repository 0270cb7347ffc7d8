-- `colouring::colour_by_lines` meets its contract.
use mathlib.Core.Path.{◌≡◌, subst}
use Prim.Native.Nat.{◌+◌, ◌*◌, ◌-◌}
use native.Mathlib.Omega.{arith}
use borrow.Author.Rules.{rules}
use lib.ListN.{length}
use Rattle.colouring.proofs.Loop.{ColouredTo, last_pixel, coloured_end, coloured_one, coloured_two}
use Rattle.colouring.proofs.colour_by_lines.Goals as goal

pub loop-k-preserved : goal.loop-k-preserved
loop-k-preserved c =
    coloured_two c.loop-k.invariant _ c.write_second.new.destination _ c.read_pixel-p.result c.read_pixel-q.result
    c.line_for-first.result c.line_for-second.result (omega arith) (omega arith) c.read_pixel-p.ensures c.read_pixel-q.ensures
    c.line_for-first.ensures c.line_for-second.ensures (search rules) c.write_second.ensures c.write_pixel.ensures

pub returns-then-source-eq0 : goal.returns-then-source-eq0
returns-then-source-eq0 c = coloured_end c.loop-k.invariant (omega arith)

pub returns : goal.returns
returns c =
    let end : 6 * c.loop-k.k + 3 ≡ length c.args.source.now = last_pixel c.loop-k.invariant (omega arith) (omega arith) in
    let here : 6 * c.loop-k.k ≡ length c.args.source.now - 3 = omega arith in
    let there : ColouredTo c.args.lines.now c.args.source.now c.loop-k.destination (length c.args.source.now - 3) =
    subst (ColouredTo c.args.lines.now c.args.source.now c.loop-k.destination) here c.loop-k.invariant in
    coloured_end
    (coloured_one there _ c.read_pixel-p-2.result c.line_for.result (omega arith) c.read_pixel-p-2.ensures c.line_for.ensures
    (search rules) c.write_pixel-2.ensures)
    (omega arith)
