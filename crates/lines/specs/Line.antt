-- The lines by which a strip is coloured, in fixed point: a line's fraction is held once, by one division, and each sample is then a
-- multiplication and an addition.
use Rattle.std.specs.Prelude.{List, ◌≡◌, ℕ, ◌+◌, ◌-◌, ◌*◌, ◌/◌, ◌%◌, ◌^◌, ◌≤◌, ◌<◌, get_or}
use Rattle.rounding.specs.Slope.{slope}
use Rattle.tables.specs.Table.{at}
use Rattle.pixel.specs.Moving.{PixelSample}
use Rattle.pixel.specs.Move.{moved_sample}
use Rattle.pixel.specs.declared.Direction.{Direction}
use Rattle.pixel.specs.declared.Direction.TheVariants.{Up, Down}
use Rattle.pixel.specs.declared.Line.{Line}
use Rattle.pixel.specs.declared.Method.{Method}
use Rattle.lines.specs.declared.FixedLine.{FixedLine}

-- Half a step of a sample: a line has 2^24 parts to a step.
abbrev pub half : ℕ
half = 2 ^ 23

-- The parts of the line at c, in 32 bits: what goes beyond them is a multiple of 256 steps and falls away.
abbrev pub parts_at : FixedLine → ℕ → ℕ
parts_at line c = (c * line.slope + line.offset) % 2 ^ 32

-- The sample of the line at c: its whole steps.
abbrev pub sample_at : FixedLine → ℕ → ℕ
sample_at line c = parts_at line c / (2 * half)

-- The line of slope n / d that has so many parts at the sample `start`. The offset is negative as a rule, and is held in 32 bits.
abbrev pub line_from : ℕ → ℕ → ℕ → ℕ → FixedLine
line_from start n d parts =
    record {
      slope = slope half n d;
      offset = (2 ^ 40 + parts - start * slope half n d) % 2 ^ 32;
    }

-- The parts at a line's start: half a step up from black, or half a step below the last part of 256 steps.
abbrev pub start_parts : Direction → ℕ
start_parts Up = half
start_parts Down = 2 ^ 32 - 1 - half

-- A line of a pixel's samples, in fixed point.
abbrev pub in_fixed_point : Line → FixedLine
in_fixed_point line = line_from line.start line.numerator line.denominator (start_parts line.direction)

-- What holding a line requires: its denominator d is at most 1530 = 2 × 765, as every divisor of a move is, its fraction at most 255, and its
-- start a sample.
pub record Holdable (start n d : ℕ) : Type 0 where
  pub positive : 0 < d
  pub divisor : d ≤ 1530
  pub steep : n ≤ 255 * d
  pub byte : start ≤ 255

-- Along this line each sample of a pixel of intensity s, of a black or white one too, goes where the method moves it for the target f.
abbrev pub IsLineOf : Method → ℕ → ℕ → FixedLine → Type 0
IsLineOf method s f line = (c : ℕ) → PixelSample s f c → sample_at line c ≡ moved_sample method s f c

-- The line at place s of a table of lines.
abbrev pub line_at : List FixedLine → ℕ → FixedLine
line_at lines s = get_or lines s (record { slope = 0; offset = 0 })

-- The table has for every intensity a line along which its samples move to the curve's entry.
abbrev pub LinesOf : Method → List ℕ → List FixedLine → Type 0
LinesOf method curve lines = (s : ℕ) → s ≤ 765 → IsLineOf method s (at curve s) (line_at lines s)
