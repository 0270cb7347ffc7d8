-- The invariant of `stream_curve::measure_pieces`: the shot and what is left of the stream come to what an opened shot and all of it come to, and it is not
-- fixed.
use Rattle.std.proofs.Common.{◌≡◌, false}
use Rattle.shot.specs.Shot.{opened}
use Rattle.stream_curve.specs.Inner.{ComesTo}
use Rattle.stream_curve.proofs.measure_pieces.Given as goal

abbrev pub invariant-loop : goal.invariant-loop
invariant-loop g l = record {
  told : ComesTo (g.R.Read.remaining l.initial.reader) opened (g.R.Read.remaining l.reader) l.shot;
  unfixed : l.shot.fixed ≡ false;
}
