-- `pixel::along_line` meets its contract. (By lemmas that the function names, what `scaled` and `scaled_from_white` ask stays open.)
use mathlib.Core.Path.{◌≡◌, refl, sym, subst}
use Prim.Native.Nat.{ℕ, ◌*◌}
use native.Mathlib.Omega.{arith}
use Rattle.rounding.specs.Near.{near}
use Rattle.pixel.specs.Inner.{AtMostWhite}
use Rattle.pixel.specs.Moving.{MovingSample}
use Rattle.pixel.specs.Lines.{line_of, distance_by, counted, on_line}
use Rattle.pixel.specs.declared.Direction.{Direction}
use Rattle.pixel.specs.declared.Direction.TheVariants.{Up, Down}
use Rattle.pixel.specs.declared.Line.{Line}
use Rattle.pixel.specs.declared.Method.{Method}
use Rattle.pixel.proofs.Lines.{Away, sample_facts, fits}
use Rattle.pixel.proofs.along_line.Goals as goal

-- what is known of a line that goes this way, and of what it gives at c
record Known (way : Direction) (line : Line) (c gives : ℕ) : Type 0 where
  away : Away way line.start (distance_by way line.start c) c
  fits : AtMostWhite (distance_by way line.start c) line.numerator line.denominator
  same : counted way (near (distance_by way line.start c * line.numerator) line.denominator) ≡ gives

known : (m : Method) {s f c : ℕ} → MovingSample s f c → (line : Line) → line ≡ line_of m s f → (way : Direction) → line.direction ≡ way
    → Known way line c (on_line (line_of m s f) c)
known m {s} {f} {c} h line is-line way goes =
    subst (λ (w : Direction). Known w line c (on_line (line_of m s f) c)) goes
    (subst (λ (l : Line). Known l.direction l c (on_line (line_of m s f) c)) (sym is-line)
    (record { away = (sample_facts m h).away; fits = fits m h; same = refl }))

pub overflow_sub-c : goal.overflow_sub-c
overflow_sub-c c =
    omega (arith, (known c.args.method c.requires c.line_of-line.result c.line_of-line.ensures Up c.in-Up.is).away)

pub scaled-requires : goal.scaled-requires
scaled-requires c =
    (known c.args.method c.requires c.line_of-line.result c.line_of-line.ensures Up c.in-Up.is).fits

pub overflow_sub-line : goal.overflow_sub-line
overflow_sub-line c =
    omega (arith, (known c.args.method c.requires c.line_of-line.result c.line_of-line.ensures Down c.in-Down.is).away)

pub scaled_from_white-requires : goal.scaled_from_white-requires
scaled_from_white-requires c =
    (known c.args.method c.requires c.line_of-line.result c.line_of-line.ensures Down c.in-Down.is).fits
