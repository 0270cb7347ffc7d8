-- What the calls' inner functions hand on.
use Rattle.std.specs.Prelude.{Result, Ok, Err}
use Rattle.refusal.specs.Numbers.{refusal_number}
use Rattle.refusal.specs.declared.Refusal.{Refusal}
use Rattle.shot.specs.declared.Shot.{Shot}
use Rattle.shot.specs.declared.Answer.{Answer}

-- A call's answer: the next shot, or the shot x as it is and the number of the refusal.
abbrev pub handed_back : Shot → Result Shot Refusal → Answer
handed_back x (Ok y) = record { shot = y; number = 0 }
handed_back x (Err refusal) = record { shot = x; number = refusal_number refusal }
