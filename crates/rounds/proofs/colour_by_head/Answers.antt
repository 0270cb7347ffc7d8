-- `rounds::colour_by_head` meets its contract: every round leaves what the first one left.
use Rattle.std.proofs.Common.{ap, rules}
use Rattle.shot.specs.Shot.{Outcome}
use Rattle.rounds.proofs.Again.{again_same}
use Rattle.rounds.proofs.colour_by_head.Goals as goal

pub loop-preserved : goal.loop-preserved
loop-preserved c =
    let loop = c.loop in
    let same = again_same _ _ _ c.colour-answer.ensures (search rules) loop.answer loop.destination loop.invariant.1 loop.invariant.0 _ c.colour-answer-in-loop.ensures in
    (ap (λ (o : Outcome). o.bytes) same, ap (λ (o : Outcome). o.answer) same)
