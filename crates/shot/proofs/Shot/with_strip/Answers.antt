-- `shot::Shot::with_strip` meets its contract. (Without this the counts' room for the strip stays open.)
use Rattle.shot.proofs.Made.{strip_fits}
use Rattle.shot.proofs.Shot.with_strip.Goals as goal

pub count_strip-counts-requires : goal.count_strip-counts-requires
count_strip-counts-requires c = strip_fits c.self.inside _ c.self.invariant c.if-strip-ne0.false c.if-room-strip.false
