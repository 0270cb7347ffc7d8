-- The invariant of `colouring::colour_by_lines`.
use Prim.Native.Nat.{◌*◌}
use Rattle.colouring.proofs.Loop.{ColouredTo}
use Rattle.colouring.proofs.colour_by_lines.Given as goal

abbrev pub invariant-loop-k : goal.invariant-loop-k
invariant-loop-k l = ColouredTo l.lines l.source l.destination (6 * l.k)
