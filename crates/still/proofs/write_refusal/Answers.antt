-- `still::write_refusal` meets its contract.
use Rattle.std.proofs.Common.{arith, rules}
use Rattle.text.proofs.Runs.{wrote_more, wrote_all}
use Rattle.still.specs.Still.{refusal_line}
use Rattle.still.proofs.write_refusal.Goals as goal

pub returns : goal.returns
unfolding refusal_line
returns c =
    let number = wrote_more (omega arith) c.text.ensures c.number.ensures in
    let written = wrote_more (omega arith) number c.text-2.ensures in
    rw (← c.from-number.ensures, ← c.from.ensures) (wrote_all written c.new-writer.ensures.start c.new-writer.ensures.held (search rules))
