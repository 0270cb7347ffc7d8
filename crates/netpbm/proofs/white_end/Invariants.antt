-- The measure and the invariant of `netpbm::white_end`: the white space that is left stands at `end`, and does not begin with a run of
-- white-space bytes.
use Rattle.std.proofs.Common.{length, ◌-◌}
use Rattle.netpbm.proofs.white_end.Given as goal
use Rattle.netpbm.proofs.WhiteSpace.{LeftAt}

abbrev pub invariant-loop-end : goal.invariant-loop-end
invariant-loop-end l = LeftAt l.bytes l.place l.end

abbrev pub decreases-loop-end : goal.decreases-loop-end
decreases-loop-end l = length l.bytes - l.end
