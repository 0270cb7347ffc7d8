-- The lines that samples move along. By either method, the samples of all pixels of one intensity, neither black nor white, that are moved
-- to one target lie on one line: at the distance x from the line's start, a sample goes to x times the line's fraction, counted up from
-- black or down from white. Document 01's six formulas are four such lines.
use Rattle.std.specs.Prelude.{◌≡◌, cond, ℕ, ◌-◌, ◌*◌, leb}
use Rattle.rounding.specs.Fraction.{Fraction, whole, ◌over◌, ◌⊗◌, ◌≈◌, nearest}
use Rattle.pixel.specs.Accuracy.{factor}
use Rattle.pixel.specs.Moving.{Moving, MovingSample}
use Rattle.pixel.specs.Move.{moved_sample}
use Rattle.pixel.specs.Paper.{Exact, Exact.up, Exact.down, paper}
use Rattle.pixel.specs.declared.Direction.{Direction}
use Rattle.pixel.specs.declared.Direction.TheVariants.{Up, Down}
use Rattle.pixel.specs.declared.Line.{Line}
use Rattle.pixel.specs.declared.Method.{Method}
use Rattle.pixel.specs.declared.Method.TheVariants.{NaikMurthy, YangLee}

-- Counted up from black: 0 at the sample `start`, and n / d more with each step above it.
abbrev pub up_from : ℕ → ℕ → ℕ → Line
up_from start n d = record { direction = Up; start = start; numerator = n; denominator = d }

-- Counted down from white: 255 at the sample `start`, and n / d less with each step below it.
abbrev pub down_from : ℕ → ℕ → ℕ → Line
down_from start n d = record { direction = Down; start = start; numerator = n; denominator = d }

-- Method 1's line for intensity s and target f: up from 0 by f / s for f at most s, down from 255 by (765 − f) / t for f above s.
unfoldable pub naik_murthy_line : ℕ → ℕ → Line
naik_murthy_line s f = cond (leb f s) (up_from 0 f s) (down_from 255 (765 - f) (765 - s))

-- Method 2's:
unfoldable pub yang_lee_line : ℕ → ℕ → Line
yang_lee_line s f =
    let t = 765 - s in
    cond (leb s 255)
    -- s at most 255: up from 0 by f / s for f at most 255, down from s by (765 − f) / (2 × s) for f above 255
    (cond (leb f 255) (up_from 0 f s) (down_from s (765 - f) (2 * s)))
    (cond (leb s 510)
    -- s from 256 to 510: as method 1
    (naik_murthy_line s f)
    -- s above 510: up from s − 510 by f / (2 × t) for f at most 510, down from 255 by (765 − f) / t for f above 510
    (cond (leb f 510) (up_from (s - 510) f (2 * t)) (down_from 255 (765 - f) t)))

-- The line of the pixels of intensity s, neither black nor white, that are moved to f.
abbrev pub line_of : Method → ℕ → ℕ → Line
line_of NaikMurthy = naik_murthy_line
line_of YangLee = yang_lee_line

-- How far the sample c is from the start: above it where the line counts up, below it where it counts down.
abbrev pub distance_by : Direction → ℕ → ℕ → ℕ
distance_by Up start c = c - start
distance_by Down start c = start - c

-- The same, for a line.
abbrev pub distance : Line → ℕ → ℕ
distance line c = distance_by line.direction line.start c

-- Numerator and denominator of a line, as a fraction.
abbrev pub fraction : Line → Fraction
fraction line = line.numerator over line.denominator

-- The distance times the fraction.
abbrev pub multiple : Line → ℕ → Fraction
multiple line c = (distance line c * line.numerator) over line.denominator

-- The sample that is n steps up from black, or down from white.
abbrev pub counted : Direction → ℕ → ℕ
counted Up n = n
counted Down n = 255 - n

-- The sample on the line at c: near(x × n / d), or 255 − near(x × n / d), at the distance x.
abbrev pub on_line : Line → ℕ → ℕ
on_line line c = counted line.direction (nearest (multiple line c))

-- Claim: every sample of a pixel that is neither black nor white moves along its line. Proved: proofs/Lines.antt, `moves_follow_lines`.
abbrev pub MovesFollowLines : Type 0
MovesFollowLines = (m : Method) (s f c : ℕ) → MovingSample s f c → moved_sample m s f c ≡ on_line (line_of m s f) c

-- Claim: the factor is the line's fraction. Proved: proofs/Lines.antt, `factors_are_fractions`.
abbrev pub FactorsAreFractions : Type 0
FactorsAreFractions = (m : Method) (s f : ℕ) → Moving s f → factor m s f ≡ fraction (line_of m s f)

-- The exact sample that is x up from black, or down from white.
abbrev pub exactly : Direction → Fraction → Exact
exactly Up x = up x
exactly Down x = down x

-- An exact sample lies on the line at c: it is an x that is counted in the line's direction, and 255 x is the distance times the fraction.
pub record ExactOnLine (line : Line) (c : ℕ) (e : Exact) : Type 0 where
  pub x : Fraction
  pub counts : e ≡ exactly line.direction x
  pub same : multiple line c ≈ whole 255 ⊗ x

-- Claim: the paper's exact sample lies on the line too. Proved: proofs/Lines.antt, `paper_follows_lines`.
abbrev pub PaperFollowsLines : Type 0
PaperFollowsLines =
    (m : Method) (s f c : ℕ) → MovingSample s f c → ExactOnLine (line_of m s f) c (paper m (s over 255) (f over 255) (c over 255))
