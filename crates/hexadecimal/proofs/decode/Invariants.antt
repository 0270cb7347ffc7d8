-- The invariant of `hexadecimal::decode`.
use Rattle.std.proofs.Common.{take}
use Rattle.text.specs.Text.{Writes}
use Rattle.hexadecimal.specs.Hexadecimal.{decoded}
use Rattle.hexadecimal.proofs.decode.Given as goal

abbrev pub invariant-loop-i : goal.invariant-loop-i
invariant-loop-i l = Writes 0 (take l.i (decoded l.digits)) l.initial.output l.i l.output
