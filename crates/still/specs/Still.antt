-- The whole job of one still picture (document 01, "Frames from a file"): from the bytes of a file to the bytes to write.
use Rattle.std.specs.Prelude.{◌≡◌, cond, not, List, [], ◌∷◌, ◌++◌, ℕ, ◌+◌, ◌-◌, ◌*◌, ltb, eqb, length, drop}
use Rattle.refusal.specs.Refusal.{Check, ◌refuses◌, first_of, if_accepted}
use Rattle.text.specs.Decimal.{decimal}
use Rattle.text.specs.Text.{ascii, written_at}
use Rattle.pixel.specs.Methods.{method_of}
use Rattle.curve.specs.Curve.{curve_of}
use Rattle.colouring.specs.Colouring.{coloured_strip}
use Rattle.netpbm.specs.Header.{area_limit, Reading, header_of, number_of, values_of, header_text, written_limit}
use Rattle.netpbm.specs.declared.Header.{Header}

-- "fixes the cube curve from it": choice 1.
abbrev pub file_choice : ℕ
file_choice = 1

-- "colours it by method 2"
abbrev pub file_method : ℕ
file_method = 2

-- The samples' own curve: the book's curve of this one strip.
abbrev pub own_curve : List ℕ → List ℕ
own_curve samples = curve_of file_choice (samples ∷ [])

-- The samples, coloured by that method and their own curve.
unfoldable pub balanced : List ℕ → List ℕ
balanced samples = coloured_strip (method_of file_method) (own_curve samples) samples

-- A picture that is written: header, then samples.
unfoldable pub picture : ℕ → ℕ → List ℕ → List ℕ
picture width height samples = header_text width height ++ balanced samples

-- "A refusal writes only `refused `, the number in decimal, LF."
unfoldable pub refusal_line : ℕ → List ℕ
refusal_line number = ascii "refused " ++ decimal number ++ ascii "\n"

-- How many samples a header says: three to a pixel.
abbrev pub samples_due : Header → ℕ
samples_due header = 3 * (header.width * header.height)

-- File 15, 16, by how many samples are due and how many bytes are present. 15: fewer samples than the header says. 16: bytes after the
-- samples.
abbrev pub sample_checks : ℕ → ℕ → List Check
sample_checks due present = ltb present due refuses 15 ∷ ltb due present refuses 16 ∷ []

-- File 12, 13, 14, 15, 16, by what reading the header answers and how many bytes the file has: the header's own refusal first.
abbrev pub file_checks : Reading → ℕ → List Check
file_checks reading size =
    not (eqb (number_of reading) 0) refuses number_of reading
    ∷ sample_checks (samples_due (values_of reading)) (size - (values_of reading).start)

-- The answer's number for a file: 0, or that of the first refusal that applies.
unfoldable pub file_number : List ℕ → ℕ
file_number file = first_of (file_checks (header_of file) (length file))

-- The file is accepted: no refusal applies.
abbrev pub IsAccepted : List ℕ → Type 0
IsAccepted file = file_number file ≡ 0

-- What a file's header says, and the samples after it.
abbrev pub file_header : List ℕ → Header
file_header file = values_of (header_of file)

abbrev pub file_samples : List ℕ → List ℕ
file_samples file = drop (file_header file).start file

-- What `balance` writes for a file: the picture, or the refusal.
unfoldable pub answer : List ℕ → List ℕ
answer file =
    if_accepted (file_number file)
    (picture (file_header file).width (file_header file).height (file_samples file))
    (refusal_line (file_number file))

-- An output of so many bytes has room for every answer (specs/Limits.antt): a header, and three samples to a pixel.
abbrev pub output_limit : ℕ
output_limit = written_limit + 3 * area_limit

-- What the job leaves: how many bytes are to be written, and what the output then holds.
pub record Outcome : Type 0 where
  pub size : ℕ
  pub output : List ℕ

-- The answer stands at the start of the output, and the rest stays as it was. A shorter output than asked for stays as it was, and no
-- byte is to be written.
unfoldable pub outcome : List ℕ → List ℕ → Outcome
outcome file output =
    cond (ltb (length output) output_limit) (record { size = 0; output = output })
    (record { size = length (answer file); output = written_at 0 (answer file) output })
