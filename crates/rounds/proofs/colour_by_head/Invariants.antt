-- The invariant of `rounds::colour_by_head`: every round leaves what the first one left.
use Rattle.std.proofs.Common.{◌≡◌}
use Rattle.rounds.proofs.colour_by_head.Given as goal

abbrev pub invariant-loop : goal.invariant-loop
invariant-loop l = (l.destination ≡ l.initial.destination) × (l.answer ≡ l.initial.answer)
