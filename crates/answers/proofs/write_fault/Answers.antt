-- `answers::write_fault` meets its contract.
use Rattle.std.proofs.Common.{arith, rules}
use Rattle.text.proofs.Runs.{wrote_more}
use Rattle.answers.specs.Answers.{fault_text}
use Rattle.answers.proofs.Sizes.{decimal_size, answered}
use Rattle.answers.proofs.write_fault.Goals as goal

pub returns : goal.returns
unfolding fault_text
returns c =
    let numbered = wrote_more (omega arith) c.text.ensures c.number.ensures in
    let introduced = wrote_more (omega arith) numbered c.text-2.ensures in
    let reasoned = wrote_more (omega arith) introduced c.text-3.ensures in
    rw (← c.reason.ensures.text, ← c.as_bytes.ensures.value)
    (answered (wrote_more (omega arith) reasoned c.text-4.ensures) c.new-writer.ensures.start c.new-writer.ensures.held (search rules)
    (omega (arith, decimal_size c.args.line (omega arith))))
