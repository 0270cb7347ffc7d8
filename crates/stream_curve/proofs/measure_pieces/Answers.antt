-- `stream_curve::measure_pieces` meets its contract: each turn measures the next piece of the stream.
use Rattle.std.proofs.Common.{arith}
use Rattle.std.proofs.lemmas.List.{length-take-le}
use Rattle.shot.specs.Shot.{opened}
use Rattle.stream_curve.proofs.Turns.{starts, opened_unfixed, stays_unfixed, goes_on, refused_by, ends_with}
use Rattle.stream_curve.proofs.measure_pieces.Goals as goal

pub loop-init : goal.loop-init
loop-init g c =
    record {
      told = starts opened c.open-shot.result c.open-shot.ensures (g.R.Read.remaining c.args.reader.now);
      unfixed = opened_unfixed c.open-shot.ensures;
    }

pub returns-then-answer-ne0-clause-told : goal.returns-then-answer-ne0-clause-told
returns-then-answer-ne0-clause-told g c =
    let is = length-take-le c.fill-filled.result.size c.fill-filled.new.buf c.fill-filled.ensures.within in
    refused_by opened c.loop.shot _ c.measure-answer.result c.measure-answer.ensures _ _ _ c.loop.invariant.told c.fill-filled.ensures.bytes
    (omega (arith, is, c.fill-filled.ensures.within, c.if-filled.array_long))
    (λ less. c.fill-filled.ensures.ended c.if-filled.false (omega (arith, is, less, c.if-filled.array_long)))
    c.if-answer-ne0.true

pub returns-then-filled-lt196608-clause-told : goal.returns-then-filled-lt196608-clause-told
returns-then-filled-lt196608-clause-told g c =
    let is = length-take-le c.fill-filled.result.size c.fill-filled.new.buf c.fill-filled.ensures.within in
    ends_with opened c.loop.shot _ c.measure-answer.result c.measure-answer.ensures _ _ _ c.loop.invariant.told c.fill-filled.ensures.bytes
    (omega (arith, is, c.if-filled-lt196608.true))
    (c.fill-filled.ensures.ended c.if-filled.false (omega (arith, c.if-filled-lt196608.true, c.if-filled.array_long)))
    c.if-answer-ne0.false

pub returns-then-filled-lt196608-clause-unfixed : goal.returns-then-filled-lt196608-clause-unfixed
returns-then-filled-lt196608-clause-unfixed g c = stays_unfixed c.loop.shot _ c.measure-answer.ensures c.loop.invariant.unfixed

pub loop-preserved : goal.loop-preserved
loop-preserved g c =
    let is = length-take-le c.fill-filled.result.size c.fill-filled.new.buf c.fill-filled.ensures.within in
    record {
      told =
          goes_on opened c.loop.shot _ c.measure-answer.result c.measure-answer.ensures _ _ _ c.loop.invariant.told c.fill-filled.ensures.bytes
          (omega (arith, is, c.fill-filled.ensures.within, c.if-filled.array_long, c.if-filled-lt196608.false))
          c.if-answer-ne0.false;
      unfixed = stays_unfixed c.loop.shot _ c.measure-answer.ensures c.loop.invariant.unfixed;
    }
