-- The invariant of `replay::Replay::make_calls`: the calls that are left leave what all of them leave.
use Rattle.std.proofs.Common.{◌≡◌, ◌-◌}
use Rattle.interpreter.specs.Scripts.{replies_to}
use Rattle.replay.proofs.Replay.make_calls.Given as goal

abbrev pub invariant-loop : goal.invariant-loop
invariant-loop g l =
    (replies_to (l.calls.times - l.counter) l.line l.calls.command l.self.shots).shots ≡ (replies_to l.calls.times l.line l.calls.command l.initial.self.shots).shots
