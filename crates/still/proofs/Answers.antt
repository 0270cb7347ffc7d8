-- The answer to a file, case by case.
use mathlib.Core.Path.{◌≡◌, refl, sym, ap, ap₂, ◌∙◌}
use mathlib.Core.Bool.{true, not}
use mathlib.Core.List.{List, ◌∷◌}
use Prim.Native.Nat.{ℕ, ◌+◌, ◌-◌, ◌≤◌, ◌<◌}
use native.Mathlib.Nat.{zero-add}
use native.Mathlib.Omega.{arith}
use borrow.Author.Tests.{eq-eqb, ne_eqb, eqb-true, lt-ltb, le-ltb, ltb-false, not-false}
use lib.Dec.{eqb}
use lib.ListN.{length, take, drop, length-append, length-drop}
use borrow.Author.Rules.{part_to_end}
use Rattle.std.proofs.Common.{Err}
use Rattle.refusal.specs.Numbers.{refusal_number}
use Rattle.refusal.specs.declared.Refusal.{Refusal}
use Rattle.refusal.proofs.Numbers.{refusals_are_numbered}
use Rattle.refusal.specs.Refusal.{Check, ◌refuses◌, first_of, are_numbered}
use Rattle.refusal.proofs.Laws.{none_applies, accepted_leaves, refused_leaves}
use Rattle.tables.proofs.Cases.{either}
use Rattle.text.specs.Text.{Writes}
use Rattle.strip_curve.proofs.Laws.{StripAccepted}
use Rattle.netpbm.specs.Header.{Reading, Accepted, header_of, number_of, values_of, header_text, HeaderFits}
use Rattle.netpbm.specs.declared.Header.{Header}
use Rattle.netpbm.proofs.Accepted.{accepted_headers_fit}
use Rattle.netpbm.proofs.Readings.{accepted_is}
use Rattle.still.proofs.Samples.{whole_shot, balanced_length}
use Rattle.still.specs.Still.{balanced, picture, refusal_line, samples_due, sample_checks, file_checks, file_number, IsAccepted, file_header, file_samples, answer, output_limit, outcome}

-- the number of a file whose header is refused is the header's
pub number_of_header : (refusal : Refusal) (size : ℕ) → first_of (file_checks (Err refusal) size) ≡ refusal_number refusal
number_of_header refusal size = rw (ne_eqb (refusal_number refusal) 0 (λ e. omega (arith, refusals_are_numbered.above refusal, e))) refl

-- a header's own check has a number where it applies
header_numbered : (n : ℕ) (checks : List Check) → are_numbered checks ≡ true → are_numbered (not (eqb n 0) refuses n ∷ checks) ≡ true
header_numbered n checks rest =
    either n 0 (λ l. simp (eq-eqb n 0 (omega arith), le-ltb 0 n (omega arith)) rest) (λ l. simp (lt-ltb 0 n l) rest)

-- A file whose header was read.
module _ (file : List ℕ) (header : Header) (reads : header_of file ≡ Accepted header) where
  pub read_fits : HeaderFits header (length file)
  read_fits = accepted_headers_fit file header reads

  -- what is taken as the samples is the file's
  pub read_samples : take (length file - header.start) (drop header.start file) ≡ file_samples file
  read_samples = part_to_end file header.start ∙ ap (λ (reading : Reading). drop (values_of reading).start file) (sym reads)

  -- and its number is that of these
  pub read_number : file_number file ≡ first_of (sample_checks (samples_due header) (length (file_samples file)))
  unfolding file_number
  read_number =
      let present : length (file_samples file) ≡ length file - header.start = rw reads (length-drop header.start file) in
      rw (present, reads) refl

-- where no check of a file applies, the header's does not, and exactly the samples due are present
file_passed : (reading : Reading) (size : ℕ) → first_of (file_checks reading size) ≡ 0
    → (number_of reading ≡ 0) × (size - (values_of reading).start ≡ samples_due (values_of reading))
file_passed reading size e =
    let due = samples_due (values_of reading) in
    let present = size - (values_of reading).start in
    let (header, (few, (many, _))) = none_applies (file_checks reading size) (header_numbered (number_of reading) (sample_checks due present) refl) e in
    (eqb-true _ _ (not-false _ header), omega (arith, ltb-false present due few, ltb-false due present many))

-- An accepted file.
module _ (file : List ℕ) (accepted : IsAccepted file) where
  passed : (number_of (header_of file) ≡ 0) × (length file - (file_header file).start ≡ samples_due (file_header file))
  unfolding file_number
  passed = file_passed (header_of file) (length file) accepted

  -- its header is accepted
  accepted_reads : header_of file ≡ Accepted (file_header file)
  accepted_reads = accepted_is (header_of file) passed.0

  pub accepted_fits : HeaderFits (file_header file) (length file)
  accepted_fits = accepted_headers_fit file (file_header file) accepted_reads

  -- it has exactly the samples due
  pub accepted_exact : length (file_samples file) ≡ samples_due (file_header file)
  accepted_exact = length-drop (file_header file).start file ∙ passed.1

  -- so they can be taken as a whole shot
  pub accepted_shot : StripAccepted (length (file_samples file))
  accepted_shot = whole_shot _ _ accepted_exact accepted_fits.some accepted_fits.most

  -- and its answer is a picture
  pub accepted_answer : answer file ≡ picture (file_header file).width (file_header file).height (file_samples file)
  unfolding answer
  accepted_answer = accepted_leaves (file_number file) _ _ accepted

  pub accepted_size : length (answer file) ≡ length (header_text (file_header file).width (file_header file).height) + samples_due (file_header file)
  unfolding picture
  accepted_size =
      omega (
        arith,
        ap length accepted_answer,
        length-append (header_text (file_header file).width (file_header file).height) (balanced (file_samples file)),
        balanced_length (file_samples file) accepted_shot.whole,
        accepted_exact,
      )

-- a header that is accepted, with exactly the samples due, makes an accepted file
pub is_accepted : (file : List ℕ) (header : Header) → header_of file ≡ Accepted header → length file - header.start ≡ samples_due header → IsAccepted file
unfolding file_number
is_accepted file header reads exact =
    rw (
      reads,
      le-ltb (length file - header.start) (samples_due header) (omega (arith, exact)),
      le-ltb (samples_due header) (length file - header.start) (omega (arith, exact)),
    )
    refl

pub refused_answer : (file : List ℕ) → (file_number file ≡ 0 → ⊥) → answer file ≡ refusal_line (file_number file)
unfolding answer
refused_answer file = refused_leaves (file_number file) _ _

module _ (file output : List ℕ) where
  pub short_outcome : length output < output_limit → outcome file output ≡ record { size = 0; output = output }
  unfolding outcome
  short_outcome short = rw (lt-ltb _ _ short) refl

  pub answer_outcome : (size : ℕ) (after : List ℕ) → output_limit ≤ length output → Writes 0 (answer file) output size after
      → outcome file output ≡ record { size = size; output = after }
  unfolding outcome
  answer_outcome size after fits wrote =
      rw (le-ltb _ _ fits)
      (ap₂ (λ (n : ℕ) (o : List ℕ). record { size = n; output = o }) (sym (wrote.ends ∙ zero-add _)) (sym wrote.holds))
