-- `answers::write_bytes` meets its contract.
use Rattle.std.proofs.Common.{arith, rules}
use Rattle.text.proofs.Runs.{wrote_more}
use Rattle.answers.proofs.Sizes.{decimal_size, strip_size, answered}
use Rattle.answers.proofs.write_bytes.Goals as goal

pub returns : goal.returns
returns c =
    let spaced = wrote_more (omega arith) c.number.ensures c.text.ensures in
    let stripped = wrote_more (omega arith) spaced c.write_strip.ensures in
    rw (← c.from.ensures)
    (answered (wrote_more (omega arith) stripped c.text-2.ensures) c.new-writer.ensures.start c.new-writer.ensures.held (search rules)
    (omega (arith, decimal_size c.from.result (omega arith), strip_size c.args.bytes.now)))
