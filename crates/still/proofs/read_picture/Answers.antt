-- `still::read_picture` meets its contract.
use Rattle.std.proofs.Common.{◌≡◌, ◌+◌, length, refl, sym, ap, ◌∙◌, arith}
use lib.Seq.{get_or-drop}
use Rattle.std.proofs.lemmas.Result.{err_from_is_err_and}
use Rattle.refusal.specs.Numbers.{number_in}
use Rattle.refusal.proofs.Numbers.{refusals_are_numbered}
use Rattle.pixel.specs.Strip.{Bytes}
use Rattle.strip_curve.proofs.Laws.{made_number, made_curve, strip_accepted, strip_shape}
use Rattle.still.specs.Still.{file_choice, samples_due, file_number, file_header, file_samples}
use Rattle.still.proofs.Answers.{number_of_header, read_fits, read_samples, read_number, accepted_exact, accepted_shot}
use Rattle.still.proofs.read_picture.Goals as goal

pub returns-in_err-header-clause-number : goal.returns-in_err-header-clause-number
unfolding file_number
returns-in_err-header-clause-number c =
    let p = err_from_is_err_and c.from_residual.result c.from_residual.ensures.1 in
    rw (p.1, p.2, sym c.read_header.ensures ∙ c.in_err-header.was)
    (sym (number_of_header _ (length c.args.file.now)))

pub slice_bounds-samples-count : goal.slice_bounds-samples-count
slice_bounds-samples-count c = (read_fits _ _ (sym c.read_header.ensures ∙ c.in_ok-header.was)).starts

pub slice_bounds-samples-start : goal.slice_bounds-samples-start
slice_bounds-samples-start c = (read_fits _ _ (sym c.read_header.ensures ∙ c.in_ok-header.was)).starts

pub overflow_mul-area : goal.overflow_mul-area
overflow_mul-area c = omega (arith, c.area.ensures, (read_fits _ _ (sym c.read_header.ensures ∙ c.in_ok-header.was)).most)

pub returns-in_err-check_samples-clause-number : goal.returns-in_err-check_samples-clause-number
returns-in_err-check_samples-clause-number c =
    let reads = sym c.read_header.ensures ∙ c.in_ok-header.was in
    let p = err_from_is_err_and c.from_residual-in_err-check_samples.result c.from_residual-in_err-check_samples.ensures.1 in
    let number = rw (c.in_err-check_samples.was, c.area.ensures, read_samples _ _ reads) at c.check_samples.ensures in
    rw (p.1, p.2) (number ∙ sym (read_number _ _ reads))

-- the samples of an accepted picture have a curve
pub returns-in_err-curve-clause-number : goal.returns-in_err-curve-clause-number
returns-in_err-curve-clause-number c =
    let reads = sym c.read_header.ensures ∙ c.in_ok-header.was in
    let number = rw (c.in_ok-check_samples.was, c.area.ensures, read_samples _ _ reads) at c.check_samples.ensures in
    let shot = accepted_shot c.args.file.now (read_number _ _ reads ∙ sym number) in
    let made = made_number _ _ _ (rw (read_samples _ _ reads) at c.curve_of_strip.ensures) in
    absurd (omega (arith, refusals_are_numbered.above c.in_err-curve.field-0.0, ap number_in (sym c.in_err-curve.was), made, strip_accepted _ shot))

pub returns-clause-number : goal.returns-clause-number
returns-clause-number c =
    let reads = sym c.read_header.ensures ∙ c.in_ok-header.was in
    let number = rw (c.in_ok-check_samples.was, c.area.ensures, read_samples _ _ reads) at c.check_samples.ensures in
    number ∙ sym (read_number _ _ reads)

-- the picture is one of an accepted file
pub invariant_of-result : goal.invariant_of-result
invariant_of-result c =
    let file = c.args.file.now in
    let reads = sym c.read_header.ensures ∙ c.in_ok-header.was in
    let number = rw (c.in_ok-check_samples.was, c.area.ensures, read_samples _ _ reads) at c.check_samples.ensures in
    let accepted = read_number _ _ reads ∙ sym number in
    let samples = read_samples _ _ reads in
    let exact : length (file_samples file) ≡ samples_due c.in_ok-header.header = accepted_exact file accepted ∙ rw reads refl in
    let bytes : Bytes (file_samples file) = λ i. omega (arith, get_or-drop (file_header file).start file i 0, c.type_inv.file ((file_header file).start + i)) in
    let curve = made_curve _ _ _ (rw samples at c.curve_of_strip.ensures) _ c.in_ok-curve.was in
    record {
      fits = rw samples (record { exact = exact; some = (read_fits _ _ reads).some; most = (read_fits _ _ reads).most });
      own_curve = rw samples curve;
      in_range = rw curve (strip_shape (file_samples file) (accepted_shot file accepted) bytes file_choice).range;
    }

pub returns-clause-parts : goal.returns-clause-parts
returns-clause-parts c =
    let reads = sym c.read_header.ensures ∙ c.in_ok-header.was in
    record { header = rw reads refl; samples = read_samples _ _ reads }
