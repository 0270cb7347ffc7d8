-- `stream_colouring::Grade::write_stream` meets its contract: each turn colours the next piece of the stream.
use Rattle.std.proofs.Common.{Ok, arith}
use Rattle.std.proofs.lemmas.List.{length-take-le}
use Rattle.std.proofs.lemmas.Result.{err_from_is_err_and}
use Rattle.stream_colouring.proofs.Streams.{starts, goes_on, ends_with, fails_with}
use Rattle.stream_colouring.proofs.grade.Grade.write_stream.Goals as goal

pub loop-init : goal.loop-init
loop-init g c = starts c.args.self.now (g.R.Read.remaining c.args.reader.now) (g.W.Write.contents c.args.writer.now)

pub returns-in_err-write_piece : goal.returns-in_err-write_piece
returns-in_err-write_piece g c =
    let is = length-take-le c.fill-filled.result.size c.fill-filled.new.buf c.fill-filled.ensures.within in
    let p = err_from_is_err_and c.from_residual.result c.from_residual.ensures.1 in
    rw (p.1, p.2)
    (fails_with c.args.self.now (g.R.Read.remaining c.args.reader.now) (g.R.Read.remaining c.loop.reader)
    (g.R.Read.remaining c.fill-filled.new.reader)
    (g.W.Write.contents c.args.writer.now) (g.W.Write.contents c.loop.writer) (g.W.Write.contents c.write_piece.new.writer) _ c.loop.invariant
    c.fill-filled.ensures.bytes
    (omega (arith, is, c.fill-filled.ensures.within, c.if-filled.array_long))
    (λ less. c.fill-filled.ensures.ended c.if-filled.false (omega (arith, is, less, c.if-filled.array_long)))
    _ c.in_err-write_piece.ensures)

pub returns-then-filled-lt196608 : goal.returns-then-filled-lt196608
returns-then-filled-lt196608 g c =
    ends_with c.args.self.now (g.R.Read.remaining c.args.reader.now) (g.R.Read.remaining c.loop.reader)
    (g.R.Read.remaining c.fill-filled.new.reader)
    (g.W.Write.contents c.args.writer.now) (g.W.Write.contents c.loop.writer) (g.W.Write.contents c.write_piece.new.writer) _ c.loop.invariant
    c.fill-filled.ensures.bytes
    (c.fill-filled.ensures.ended c.if-filled.false (omega (arith, c.if-filled-lt196608.true, c.if-filled.array_long)))
    (Ok tt) c.in_ok-write_piece.ensures

pub loop-preserved : goal.loop-preserved
loop-preserved g c =
    let is = length-take-le c.fill-filled.result.size c.fill-filled.new.buf c.fill-filled.ensures.within in
    goes_on c.args.self.now (g.R.Read.remaining c.args.reader.now) (g.R.Read.remaining c.loop.reader)
    (g.R.Read.remaining c.fill-filled.new.reader)
    (g.W.Write.contents c.args.writer.now) (g.W.Write.contents c.loop.writer) (g.W.Write.contents c.write_piece.new.writer) _ c.loop.invariant
    c.fill-filled.ensures.bytes
    (omega (arith, is, c.fill-filled.ensures.within, c.if-filled.array_long, c.if-filled-lt196608.false))
    c.in_ok-write_piece.ensures.1
