-- How much of a file is read, and how much is written at the most.
use mathlib.Core.Path.{◌≡◌, refl, sym, ap, subst, ◌∙◌}
use mathlib.Core.Bool.{Bool, true, false, cond}
use mathlib.Core.List.{List}
use Prim.Native.Nat.{ℕ, ◌+◌, ◌-◌, ◌≤◌, ◌<◌, zero-le}
use native.Mathlib.Nat.{le_of_lt}
use native.Mathlib.Omega.{arith}
use borrow.Author.Tests.{lt-ltb, le-ltb, ltb-false}
use lib.Dec.{ltb}
use lib.ListN.{length, take, length-drop}
use lib.Seq.{take_all, take-take, length-take-le}
use Rattle.std.proofs.Common.{Ok, Err}
use Rattle.refusal.specs.Numbers.{refusal_number}
use Rattle.refusal.specs.Refusal.{first_of}
use Rattle.refusal.proofs.Numbers.{refusals_are_numbered}
use Rattle.refusal.proofs.Laws.{either_leaves}
use Rattle.tables.proofs.Cases.{either}
use Rattle.text.specs.Text.{written_at}
use Rattle.text.specs.Decimal.{value_after}
use Rattle.text.proofs.Runs.{length_written}
use Rattle.scanning.specs.Scanning.{run_length}
use Rattle.netpbm.specs.Header.{header_limit, Reading, Accepted, white_length, field_at, header_in, header_of}
use Rattle.netpbm.proofs.Accepted.{accepted_headers_fit}
use Rattle.netpbm.proofs.Written.{written_headers_fit}
use Rattle.still.specs.Limits.{input_limit, largest_file, OneByteMore, FirstBytesAreEnough, AnswersFit}
use Rattle.still.specs.Still.{picture, refusal_line, samples_due, file_checks, file_number, IsAccepted, file_header, file_samples, answer, output_limit, Outcome, outcome}
use Rattle.still.proofs.Answers.{accepted_fits, accepted_exact, accepted_answer, accepted_size, is_accepted, number_of_header, refused_answer}
use Rattle.still.proofs.Sizes.{refusal_short, number_small}

-- an accepted file is its header and its samples
file_size : (file : List ℕ) → IsAccepted file → length file ≡ (file_header file).start + samples_due (file_header file)
file_size file accepted =
    omega (arith, (accepted_fits file accepted).starts, accepted_exact file accepted, length-drop (file_header file).start file)

accepted_within : (file : List ℕ) → IsAccepted file → length file < input_limit
accepted_within file accepted = omega (arith, file_size file accepted, (accepted_fits file accepted).short, (accepted_fits file accepted).most)

largest_size : length largest_file + 1 ≡ input_limit
unfolding largest_file
largest_size = refl

largest_reads : header_of largest_file ≡ Accepted (record { width = 128; height = 128; start = header_limit })
unfolding largest_file value_after run_length white_length field_at header_in
largest_reads = refl

pub one_byte_more : OneByteMore
one_byte_more = record {
  within = accepted_within;
  accepted = is_accepted largest_file _ largest_reads (omega (arith, largest_size));
  largest = largest_size;
}

-- the number for a file with more bytes than are read
abbrev overlong_number : Reading → ℕ
overlong_number (Ok header) = 16
overlong_number (Err refusal) = refusal_number refusal

overlong_refuses : (reading : Reading) → overlong_number reading ≡ 0 → ⊥
overlong_refuses (Ok header) e = omega arith
overlong_refuses (Err refusal) e = omega (arith, refusals_are_numbered.above refusal, e)

module _ (file : List ℕ) where
  -- however many those are
  overlong_number_lem : (reading : Reading) (size : ℕ) → header_of file ≡ reading → input_limit ≤ size → first_of (file_checks reading size) ≡ overlong_number reading
  overlong_number_lem (Ok header) size reads many =
      let fits = accepted_headers_fit file header reads in
      let more : samples_due header < size - header.start = omega (arith, fits.short, fits.most) in
      rw (le-ltb _ _ (le_of_lt more), lt-ltb _ _ more) refl
  overlong_number_lem (Err refusal) size reads many = number_of_header refusal size

  overlong_answer : (begin : List ℕ) → header_of begin ≡ header_of file → input_limit ≤ length begin → answer begin ≡ refusal_line (overlong_number (header_of file))
  unfolding file_number
  overlong_answer begin same many =
      let number : file_number begin ≡ overlong_number (header_of file) =
      ap (λ (r : Reading). first_of (file_checks r (length begin))) same ∙ overlong_number_lem (header_of file) (length begin) refl many in
      refused_answer begin (λ e. overlong_refuses (header_of file) (sym number ∙ e)) ∙ ap refusal_line number

  same_answer : input_limit < length file → answer (take input_limit file) ≡ answer file
  same_answer many =
      overlong_answer (take input_limit file) (ap header_in (take-take header_limit input_limit file (omega arith)))
      (omega (arith, length-take-le input_limit file (le_of_lt many)))
      ∙ sym (overlong_answer file refl (le_of_lt many))

pub first_bytes_are_enough : FirstBytesAreEnough
first_bytes_are_enough file =
    either (length file) input_limit (λ few. ap answer (take_all input_limit file few)) (same_answer file)

-- an answer is a picture that fits, or a short line
pub answers_fit : AnswersFit
unfolding answer file_number
answers_fit file =
    either_leaves (file_number file) (picture (file_header file).width (file_header file).height (file_samples file)) (refusal_line (file_number file))
    (λ (l : List ℕ). length l ≤ output_limit)
    (λ accepted.
    let fits = accepted_fits file accepted in
    omega (
      arith,
      written_headers_fit (file_header file).width (file_header file).height fits.some fits.most,
      ap length (accepted_answer file accepted),
      accepted_size file accepted,
      fits.most,
    ))
    (omega (arith, refusal_short (file_number file) (number_small (header_of file) (length file))))

-- for callers: the bytes to be written lie within the output
pub size_within : (file output after : List ℕ) (size : ℕ) → outcome file output ≡ record { size = size; output = after } → size ≤ length after
unfolding outcome
size_within file output after size e =
    subst (λ (o : Outcome). o.size ≤ length o.output) e (go (ltb (length output) output_limit) (ltb-false (length output) output_limit))
  where
    go : (short : Bool) → (short ≡ false → output_limit ≤ length output)
        → let o : Outcome = cond short (record { size = 0; output = output }) (record { size = length (answer file); output = written_at 0 (answer file) output }) in
        o.size ≤ length o.output
    go true fits = zero-le
    go false fits =
        let room : length (answer file) ≤ length output = omega (arith, answers_fit file, fits refl) in
        omega (arith, room, length_written 0 (answer file) output (omega (arith, room)))
