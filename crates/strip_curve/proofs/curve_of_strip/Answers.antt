-- `strip_curve::curve_of_strip` meets its contract.
use Rattle.std.proofs.Common.{sym, ◌∙◌, arith}
use Rattle.strip_curve.proofs.Laws.{answer_accepted, strip_passed, zeros_fit, strip_histogram, strip_made}
use Rattle.strip_curve.proofs.curve_of_strip.Goals as goal

pub count_strip-counts-requires : goal.count_strip-counts-requires
count_strip-counts-requires c = zeros_fit _ (strip_passed c.args.strip.now (sym c.in_ok-check_strip.ensures))

pub tone_curve-requires : goal.tone_curve-requires
tone_curve-requires c =
    strip_histogram c.args.strip.now (strip_passed c.args.strip.now (sym c.in_ok-check_strip.ensures)) _ c.count_strip-counts.ensures
    (λ i. omega (arith, c.type_inv.strip i))

pub returns : goal.returns
returns c =
    answer_accepted _ _ _ c.in_ok-check_strip.ensures
    (c.tone_curve.ensures
    ∙ strip_made _ (strip_passed c.args.strip.now (sym c.in_ok-check_strip.ensures)) _ c.count_strip-counts.ensures _)
