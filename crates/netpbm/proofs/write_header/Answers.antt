-- `netpbm::write_header` meets its contract.
use Rattle.std.proofs.Common.{arith, rules}
use Rattle.text.proofs.Runs.{wrote_more, wrote_all}
use Rattle.netpbm.specs.Header.{header_text}
use Rattle.netpbm.proofs.write_header.Goals as goal

pub returns : goal.returns
unfolding header_text
returns c =
    let width = wrote_more (omega arith) c.text.ensures c.number.ensures in
    let space = wrote_more (omega arith) width c.text-2.ensures in
    let height = wrote_more (omega arith) space c.number-2.ensures in
    let written = wrote_more (omega arith) height c.text-3.ensures in
    rw (← c.from.ensures, ← c.from-2.ensures)
    (wrote_all written c.new-writer.ensures.start c.new-writer.ensures.held (search rules))
