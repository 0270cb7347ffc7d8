-- The invariant of `hexadecimal::encode`.
use Rattle.std.proofs.Common.{take}
use Rattle.text.specs.Text.{Wrote}
use Rattle.hexadecimal.specs.Hexadecimal.{encoded}
use Rattle.hexadecimal.proofs.encode.Given as goal

abbrev pub invariant-loop-byte : goal.invariant-loop-byte
invariant-loop-byte l = Wrote (encoded (take l.byte-index l.bytes)) l.initial.writer l.writer
