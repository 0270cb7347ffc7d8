-- `stream_colouring::colour_stream` meets its contract.
use Rattle.std.proofs.Common.{arith}
use Rattle.std.proofs.lemmas.Result.{err_from_is_err_and}
use Rattle.refusal.proofs.Numbers.{refusals_are_numbered}
use Rattle.pieces.proofs.Known.{of_known, from_known}
use Rattle.stream_colouring.proofs.Told.{opening_refused, writing_told}
use Rattle.stream_colouring.proofs.colour_stream.Goals as goal

pub returns-in_err-grade-clause-told : goal.returns-in_err-grade-clause-told
returns-in_err-grade-clause-told g c =
    let p = err_from_is_err_and c.from_residual.result c.from_residual.ensures.1 in
    rw (p.1, p.2)
    (of_known (g.R.Read.remaining c.args.reader.now) (λ s.
    opening_refused (record { curve = c.args.curve.now; method = c.args.method; setting = c.args.setting; stream = s }) _
    (g.W.Write.contents c.args.writer.now) c.in_err-grade.ensures.number
    (λ zero. omega (arith, zero, refusals_are_numbered.above c.in_err-grade.field-0.0))))

pub returns-clause-told : goal.returns-clause-told
returns-clause-told g c =
    from_known (g.R.Read.remaining c.args.reader.now) c.write_stream.ensures (λ s writes.
    writing_told (record { curve = c.args.curve.now; method = c.args.method; setting = c.args.setting; stream = s }) c.in_ok-grade.grade
    (g.W.Write.contents c.args.writer.now) _ _ c.in_ok-grade.ensures.number c.in_ok-grade.ensures.parts writes)
