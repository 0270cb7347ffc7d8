-- `text::read_decimal` meets its contract.
use Rattle.std.proofs.Common.{arith}
use Rattle.text.proofs.Reading.{read_more, read_fits, read_end}
use Rattle.text.proofs.read_decimal.Goals as goal

pub overflow_mul-number : goal.overflow_mul-number
overflow_mul-number c = omega (arith, read_fits c.requires.1 c.loop-digit.invariant c.requires.0 c.loop-digit-test.true)

pub overflow_add-number : goal.overflow_add-number
overflow_add-number c = omega (arith, read_fits c.requires.1 c.loop-digit.invariant c.requires.0 c.loop-digit-test.true)

pub loop-digit-preserved : goal.loop-digit-preserved
loop-digit-preserved c = rw c.from.ensures (read_more c.requires.1 c.loop-digit.invariant c.loop-digit-test.true)

pub returns : goal.returns
returns c = read_end c.requires.1 c.loop-digit.invariant c.loop-digit-test.false
