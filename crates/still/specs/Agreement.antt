-- A file beside a shot and beside another file: its pixels are those of a list of calls, of which demand 3 speaks, and what is written
-- for it is such a file again.
use Rattle.std.specs.Prelude.{◌≡◌, List, [], ◌∷◌, ◌++◌, map, ℕ, length}
use Rattle.tables.specs.Table.{◌among◌}
use Rattle.pixel.specs.Methods.{method_of}
use Rattle.pixel.specs.Strip.{Bytes}
use Rattle.settings.specs.Setting.{full}
use Rattle.dial.specs.Dial.{full_balance}
use Rattle.colouring.specs.Written.{Written, BalanceAccurate, BalanceRounded, AtMostTwoBelow, pixels_written}
use Rattle.book.specs.Accuracy.{Accurate}
use Rattle.book.specs.Book.{Call, Call.measuring, Call.fixing, Call.colouring}
use Rattle.book.specs.Run.{Step, trace, number}
use Rattle.netpbm.specs.Header.{header_text}
use Rattle.still.specs.Still.{file_choice, file_method, own_curve, file_header, file_samples, answer, IsAccepted}

-- The calls that a picture takes, into a destination that may hold anything: a new shot is measured by its samples, fixed, and used to
-- colour them with the dial at the full balance.
abbrev pub calls_of : List ℕ → List ℕ → List Call
calls_of samples destination =
    measuring samples
    ∷ fixing file_choice
    ∷ colouring (record { method = file_method; dial = full_balance; source = samples; destination = destination })
    ∷ []

-- What the calls of a list leave in the destinations, one after the other.
abbrev pub bytes_left : List Step → List ℕ
bytes_left [] = []
bytes_left (t ∷ steps) = t.outcome.bytes ++ bytes_left steps

-- What is written for a file is a header and what those calls write.
pub record FollowsShot (file destination : List ℕ) : Type 0 where
  -- none of the calls is refused
  pub accepted : map number (trace (calls_of (file_samples file) destination)) ≡ 0 ∷ 0 ∷ 0 ∷ []
  -- what they write follows the header
  pub written : answer file
      ≡ header_text (file_header file).width (file_header file).height ++ bytes_left (trace (calls_of (file_samples file) destination))
  -- and demand 3 holds of them
  pub accurate : Accurate (calls_of (file_samples file) destination)

-- Claim: every accepted file follows a shot, whatever the destination held before. Proved: proofs/Agreement.antt, `files_follow_shots`.
abbrev pub FilesFollowShots : Type 0
FilesFollowShots =
    (file : List ℕ) → Bytes file → IsAccepted file → (destination : List ℕ) → length destination ≡ length (file_samples file)
    → FollowsShot file destination

-- The pixels written for a file: those of its samples, by its own curve and method 2, read off the samples of the answer.
abbrev pub pixels_of_file : List ℕ → List Written
pixels_of_file file =
    pixels_written full (method_of file_method) (own_curve (file_samples file)) (file_samples file) (file_samples (answer file))

-- Claim: demand 2 for every pixel written for an accepted file: each sample is the exact value of the paper's formula, rounded once.
-- Proved: proofs/Agreement.antt, `files_round_the_paper`.
abbrev pub FilesRoundThePaper : Type 0
FilesRoundThePaper =
    (file : List ℕ) → Bytes file → IsAccepted file → (w : Written) → w among pixels_of_file file → BalanceRounded w

-- Claim: the pixels written for an accepted file keep the mission's own rules, by the factor and the entry themselves, and any two of them
-- its order. Proved: proofs/Agreement.antt, `files_are_accurate`.
pub record FilesAreAccurate : Type 0 where
  pub rules : (file : List ℕ) → Bytes file → IsAccepted file → (w : Written) → w among pixels_of_file file → BalanceAccurate w
  pub order : (file : List ℕ) → Bytes file → IsAccepted file → (v w : Written) → v among pixels_of_file file → w among pixels_of_file file
      → AtMostTwoBelow v w

-- Claim: what is written for an accepted file is an accepted file of the same size. Proved: proofs/Agreement.antt, `answers_are_files`.
pub record AnswersAreFiles : Type 0 where
  pub accepted : (file : List ℕ) → IsAccepted file → IsAccepted (answer file)
  pub width : (file : List ℕ) → IsAccepted file → (file_header (answer file)).width ≡ (file_header file).width
  pub height : (file : List ℕ) → IsAccepted file → (file_header (answer file)).height ≡ (file_header file).height
