-- A file beside a shot and beside another file.
use mathlib.Core.Path.{◌≡◌, refl, sym, ap, ap₂, subst, ◌∙◌}
use mathlib.Core.List.Memᴰ
use mathlib.Core.List.{List, [], ◌∷◌, ◌++◌, map, append-nil}
use mathlib.Core.Logic.{⊎_elim}
use Prim.Native.Nat.{ℕ, ◌-◌}
use native.Mathlib.Omega.{arith}
use lib.ListN.{length, drop}
use lib.Seq.{get_or-drop, drop-append_seam}
use Rattle.tables.specs.Table.{◌among◌}
use Rattle.pixel.specs.Methods.{method_of}
use Rattle.pixel.specs.Strip.{Bytes}
use Rattle.curve.specs.Curve.{IsToneCurve}
use Rattle.strip_curve.proofs.Laws.{StripAccepted, strip_shape}
use Rattle.settings.specs.Setting.{full}
use Rattle.dial.specs.Dial.{Decoded, refusal_of, setting_of, full_balance}
use Rattle.dial.proofs.Exact.{full_balance_lem}
use Rattle.colouring.specs.Colouring.{coloured_under}
use Rattle.colouring.specs.Written.{Written, pixels_written, coloured_pixels}
use Rattle.colouring.proofs.Strips.{amount_one_is_full_balance}
use Rattle.colouring.proofs.Written.{Balanced, coloured_pixels_are_balanced, balances_keep_order, one_curve_keeps_order}
use Rattle.book.specs.Book.{Call, Call.measuring, Call.fixing, Call.colouring}
use Rattle.book.specs.Run.{trace, number, WellFormed}
use Rattle.shot.specs.Shot.{opened, measured, fixed_with, ColourRequest, Outcome, coloured}
use Rattle.book.proofs.Accuracy.{accuracy}
use Rattle.shot.proofs.OneStrip.{measure_accepted, fix_accepted, colour_accepted}
use Rattle.netpbm.specs.Header.{Accepted, header_of, values_of, header_text}
use Rattle.netpbm.specs.declared.Header.{Header}
use Rattle.netpbm.proofs.Grammar.{written_is_read}
use Rattle.still.specs.Agreement.{calls_of, bytes_left, FollowsShot, FilesFollowShots, pixels_of_file, FilesRoundThePaper, FilesAreAccurate, AnswersAreFiles}
use Rattle.still.specs.Still.{file_choice, file_method, own_curve, balanced, picture, samples_due, IsAccepted, file_header, file_samples, answer}
use Rattle.still.proofs.Answers.{accepted_fits, accepted_shot, accepted_answer, accepted_size, is_accepted}

-- what the pixels written for a file are: those of a colouring, by a tone curve, of samples that are bytes
pub record FileColouring (file : List ℕ) : Type 0 where
  pub tone : IsToneCurve (own_curve (file_samples file))
  pub bytes : Bytes (file_samples file)
  pub member : (w : Written) → w among pixels_of_file file → w among coloured_pixels full (method_of file_method) (own_curve (file_samples file)) (file_samples file)

module _ (file : List ℕ) (accepted : IsAccepted file) where
  abbrev samples : List ℕ
  samples = file_samples file

  abbrev shot : StripAccepted (length samples)
  shot = accepted_shot file accepted

  -- its samples are bytes
  samples_are_bytes : Bytes file → Bytes samples
  samples_are_bytes bytes i = rw (get_or-drop (file_header file).start file i 0) (bytes _)

  module _ (bytes : Bytes file) (destination : List ℕ) (same : length destination ≡ length samples) where
    abbrev sample_bytes : Bytes samples
    sample_bytes = samples_are_bytes bytes

    abbrev request : ColourRequest
    request = record { method = file_method; dial = full_balance; source = samples; destination = destination }

    -- what its colouring leaves
    colouring_is : coloured (fixed_with (measured opened samples).shot file_choice).shot request
        ≡ record {
          answer = record { shot = (fixed_with (measured opened samples).shot file_choice).shot; number = 0 };
          bytes = balanced samples;
        }
    unfolding balanced
    colouring_is =
        colour_accepted samples sample_bytes file_choice refl shot request refl shot.whole same (ap refusal_of full_balance_lem)
        ∙ ap (λ (l : List ℕ). record { answer = record { shot = (fixed_with (measured opened samples).shot file_choice).shot; number = 0 }; bytes = l })
        (ap (λ (d : Decoded). coloured_under (setting_of d) (method_of file_method) (own_curve samples) samples) full_balance_lem
        ∙ amount_one_is_full_balance (method_of file_method) (own_curve samples) samples)

    calls_accepted : map number (trace (calls_of samples destination)) ≡ 0 ∷ 0 ∷ 0 ∷ []
    calls_accepted =
        ap₂ ◌∷◌ (measure_accepted samples sample_bytes file_choice refl shot)
        (ap₂ ◌∷◌ (fix_accepted samples sample_bytes file_choice refl shot)
        (ap (λ (o : Outcome). o.answer.number ∷ []) colouring_is))

    calls_write : bytes_left (trace (calls_of samples destination)) ≡ balanced samples
    calls_write = append-nil _ ∙ ap (λ (o : Outcome). o.bytes) colouring_is

    -- the calls bring bytes
    well_formed_lem : (c : Call) → c among calls_of samples destination → WellFormed c
    well_formed_lem c m =
        ⊎_elim (λ (e : c ≡ measuring samples). subst WellFormed (sym e) sample_bytes)
        (λ m. ⊎_elim (λ (e : c ≡ fixing file_choice). subst WellFormed (sym e) tt)
        (λ m. ⊎_elim (λ (e : c ≡ colouring request). subst WellFormed (sym e) sample_bytes)
        (λ m. absurd (Memᴰ.not-nil m))
        (Memᴰ.cases_cons m))
        (Memᴰ.cases_cons m))
        (Memᴰ.cases_cons m)

    follows_shot : FollowsShot file destination
    unfolding picture
    follows_shot = record {
      accepted = calls_accepted;
      written =
          accepted_answer file accepted
          ∙ ap (λ (l : List ℕ). header_text (file_header file).width (file_header file).height ++ l) (sym calls_write);
      accurate = accuracy _ well_formed_lem;
    }

  -- Its answer, read again.
  abbrev written_header : Header
  written_header = record {
    width = (file_header file).width;
    height = (file_header file).height;
    start = length (header_text (file_header file).width (file_header file).height);
  }

  answer_reads : header_of (answer file) ≡ Accepted written_header
  unfolding picture
  answer_reads =
      ap header_of (accepted_answer file accepted)
      ∙ written_is_read _ _ (accepted_fits file accepted).some (accepted_fits file accepted).most (balanced samples)

  answer_exact : length (answer file) - written_header.start ≡ samples_due written_header
  answer_exact = omega (arith, accepted_size file accepted)

  answer_header : file_header (answer file) ≡ written_header
  answer_header = ap values_of answer_reads

  -- and its samples are the file's, coloured
  answer_samples : file_samples (answer file) ≡ balanced samples
  unfolding picture
  answer_samples =
      ap₂ drop (ap (λ (h : Header). h.start) answer_header) (accepted_answer file accepted)
      ∙ drop-append_seam (header_text (file_header file).width (file_header file).height) (balanced samples)

  -- so its pixels are those of a colouring by a tone curve
  pub file_colouring : Bytes file → FileColouring file
  unfolding balanced
  file_colouring bytes =
      let inside = samples_are_bytes bytes in
      record {
        tone = strip_shape samples shot inside file_choice;
        bytes = inside;
        member = λ w m.
            subst (λ (written : List ℕ). w among pixels_written full (method_of file_method) (own_curve (file_samples file)) samples written)
            (answer_samples ∙ sym (amount_one_is_full_balance (method_of file_method) (own_curve (file_samples file)) samples))
            m;
      }

-- every one of its pixels is one of a full balance
file_balanced : (file : List ℕ) → Bytes file → IsAccepted file → (w : Written) → w among pixels_of_file file → Balanced w
file_balanced file bytes accepted w m =
    let made = file_colouring file accepted bytes in
    coloured_pixels_are_balanced (method_of file_method) (own_curve (file_samples file)) (file_samples file) made.tone made.bytes w
    (made.member w m)

pub files_round_the_paper : FilesRoundThePaper
files_round_the_paper file bytes accepted w m = (file_balanced file bytes accepted w m).rounded

pub files_are_accurate : FilesAreAccurate
files_are_accurate = record {
  rules = λ file bytes accepted w m. (file_balanced file bytes accepted w m).rules;
  order = λ file bytes accepted v w mv mw.
      let made = file_colouring file accepted bytes in
      balances_keep_order (file_balanced file bytes accepted v mv) (file_balanced file bytes accepted w mw)
      (one_curve_keeps_order full full (method_of file_method) (method_of file_method) (own_curve (file_samples file)) (file_samples file)
      (file_samples file) (omega arith) (omega arith) made.tone made.bytes made.bytes v w (made.member v mv) (made.member w mw));
}

pub files_follow_shots : FilesFollowShots
files_follow_shots file bytes accepted destination same = follows_shot file accepted bytes destination same

pub answers_are_files : AnswersAreFiles
answers_are_files = record {
  accepted = λ file accepted. is_accepted (answer file) _ (answer_reads file accepted) (answer_exact file accepted);
  width = λ file accepted. ap (λ (h : Header). h.width) (answer_header file accepted);
  height = λ file accepted. ap (λ (h : Header). h.height) (answer_header file accepted);
}
