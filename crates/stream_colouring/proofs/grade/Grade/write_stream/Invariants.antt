-- The invariant of `stream_colouring::Grade::write_stream`: the whole pixels that were read so far were written, coloured.
use Rattle.stream_colouring.specs.Inner.{Stands}
use Rattle.stream_colouring.proofs.grade.Grade.write_stream.Given as goal

abbrev pub invariant-loop : goal.invariant-loop
invariant-loop g l =
    Stands l.self (g.R.Read.remaining l.initial.reader) (g.R.Read.remaining l.reader) (g.W.Write.contents l.initial.writer)
    (g.W.Write.contents l.writer)
