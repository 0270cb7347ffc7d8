-- The invariant of `replay::run`.
use Rattle.std.proofs.Common.{◌≤◌}
use Rattle.script.specs.Script.{line_limit}
use Rattle.replay.proofs.run.Given as goal

abbrev pub invariant-loop : goal.invariant-loop
invariant-loop g l = l.held ≤ line_limit
