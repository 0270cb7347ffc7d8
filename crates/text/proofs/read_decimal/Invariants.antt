-- The invariant of `text::read_decimal`.
use Rattle.text.proofs.Reading.{ReadTo}
use Rattle.text.proofs.read_decimal.Given as goal

abbrev pub invariant-loop-digit : goal.invariant-loop-digit
invariant-loop-digit l = ReadTo l.digits l.digit-index l.number
