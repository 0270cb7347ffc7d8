-- The invariant of `frames::print_limit`: no more turns were accepted than made.
use Rattle.std.proofs.Common.{◌≤◌}
use Rattle.frames.proofs.print_limit.Given as goal

abbrev pub invariant-loop : goal.invariant-loop
invariant-loop g l = l.accepted ≤ l.counter
