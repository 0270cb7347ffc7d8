-- `still::balance_file` meets its contract.
use Rattle.std.proofs.Common.{sym, arith}
use Rattle.refusal.proofs.Numbers.{refusals_are_numbered}
use Rattle.still.proofs.Answers.{accepted_answer, refused_answer, short_outcome, answer_outcome}
use Rattle.still.proofs.Sizes.{refusal_small, refusal_short}
use Rattle.still.proofs.balance_file.Goals as goal

pub returns-then-output-lt-OUTPUT_LIMIT : goal.returns-then-output-lt-OUTPUT_LIMIT
returns-then-output-lt-OUTPUT_LIMIT c = short_outcome _ _ c.if-output-lt-OUTPUT_LIMIT.true

pub write_refusal-requires : goal.write_refusal-requires
write_refusal-requires c =
    omega (arith, refusal_short _ (refusal_small c.in-Err.refusal), c.if-output-lt-OUTPUT_LIMIT.false)

pub returns-in-Ok : goal.returns-in-Ok
returns-in-Ok c =
    let of = c.in-Ok.ensures.parts in
    let room = c.if-output-lt-OUTPUT_LIMIT.false in
    answer_outcome _ _ _ _ room
    (rw (accepted_answer c.args.file.now (sym c.in-Ok.ensures.number), ← of.samples, ← of.header) c.write_picture.ensures)

pub returns-in-Err : goal.returns-in-Err
returns-in-Err c =
    let above = refusals_are_numbered.above c.in-Err.refusal in
    let number = c.in-Err.ensures.number in
    answer_outcome _ _ _ _ c.if-output-lt-OUTPUT_LIMIT.false
    (rw (refused_answer c.args.file.now (λ e. omega (arith, above, number, e)), ← number) c.write_refusal.ensures)
