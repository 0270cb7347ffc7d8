-- What the functions of this crate that no customer calls require or ensure. No outside call's contract cites these.
use Rattle.std.specs.Prelude.{true, List, ◌≡◌, ℕ, length}
use Rattle.pixel.specs.Move.{intensity, each_sample}
use Rattle.pixel.specs.Strip.{is_whole}
use Rattle.lines.specs.Line.{sample_at, line_at}
use Rattle.lines.specs.declared.FixedLine.{FixedLine}
use Rattle.colouring.specs.Colouring.{each_pixel}

-- The source is made of whole pixels, and the destination is as long.
pub record SameSize (source destination : List ℕ) : Type 0 where
  pub whole : is_whole (length source) ≡ true
  pub same : length destination ≡ length source

-- A strip with each pixel moved along the line of its intensity.
abbrev pub along_lines : List FixedLine → List ℕ → List ℕ
along_lines lines = each_pixel (λ p. each_sample (sample_at (line_at lines (intensity p))) p)
