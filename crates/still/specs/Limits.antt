-- How much of a file is read, and how much is written at the most.
use Rattle.std.specs.Prelude.{◌≡◌, List, ◌++◌, ℕ, ◌+◌, ◌-◌, ◌*◌, ◌≤◌, ◌<◌, length, take, replicate}
use Prim.Native.Char.{code}
use Rattle.text.specs.Text.{ascii}
use Rattle.netpbm.specs.Header.{header_limit, area_limit}
use Rattle.still.specs.Still.{answer, output_limit, IsAccepted}

-- So many bytes of a file are read: a header, three samples to a pixel, and one byte.
abbrev pub input_limit : ℕ
input_limit = header_limit + 3 * area_limit + 1

-- An accepted file of the largest size: a comment fills its header, beside whose text sixteen bytes are due.
unfoldable pub largest_file : List ℕ
largest_file =
    ascii "P6#" ++ replicate (header_limit - 16) (code "x") ++ ascii "\n128 128\n255\n" ++ replicate (3 * area_limit) 0

-- Claim: `input_limit` is one byte more than the largest accepted file has. Proved: proofs/Limits.antt, `one_byte_more`.
pub record OneByteMore : Type 0 where
  pub within : (file : List ℕ) → IsAccepted file → length file < input_limit
  pub accepted : IsAccepted largest_file
  pub largest : length largest_file + 1 ≡ input_limit

-- Claim: the answer to that many first bytes of a file is the answer to the file. Proved: proofs/Limits.antt, `first_bytes_are_enough`.
abbrev pub FirstBytesAreEnough : Type 0
FirstBytesAreEnough = (file : List ℕ) → answer (take input_limit file) ≡ answer file

-- Claim: an output of `output_limit` bytes has room for every answer. Proved: proofs/Limits.antt, `answers_fit`.
abbrev pub AnswersFit : Type 0
AnswersFit = (file : List ℕ) → length (answer file) ≤ output_limit
