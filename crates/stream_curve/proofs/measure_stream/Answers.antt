-- `stream_curve::measure_stream` meets its contract.
use Rattle.std.proofs.lemmas.Result.{err_from_is_err_and}
use Rattle.pieces.proofs.Known.{of_known, from_known}
use Rattle.stream_curve.proofs.Told.{choice_refused, piece_refused, fixing_told}
use Rattle.stream_curve.proofs.measure_stream.Goals as goal

pub returns-in_err-try_from-clause-told : goal.returns-in_err-try_from-clause-told
returns-in_err-try_from-clause-told g c =
    let p = err_from_is_err_and c.from_residual.result c.from_residual.ensures.1 in
    rw (p.1, p.2, c.in_err-try_from.ensures.1)
    (of_known (g.R.Read.remaining c.args.reader.now) (λ s. choice_refused c.args.choice s c.in_err-try_from.ensures.0))

pub returns-in_err-shot-clause-told : goal.returns-in_err-shot-clause-told
returns-in_err-shot-clause-told g c =
    let p = err_from_is_err_and c.from_residual-in_err-shot.result c.from_residual-in_err-shot.ensures.1 in
    rw (p.1, p.2)
    (from_known (g.R.Read.remaining c.args.reader.now) c.in_err-shot.ensures.told
    (λ s told. piece_refused c.args.choice s c.in_ok-try_from.ensures.0 _ told))

pub returns-clause-told : goal.returns-clause-told
returns-clause-told g c =
    from_known (g.R.Read.remaining c.args.reader.now) c.in_ok-shot.ensures.told
    (λ s measured. fixing_told c.args.choice s c.in_ok-try_from.ensures.0 _ _ measured c.fixed_bytes.ensures)
