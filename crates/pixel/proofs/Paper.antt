-- A moved sample rounds the exact one of source 004: both lie on one line, and it is shown once, over a fraction and a direction.
use mathlib.Core.Path.{◌≡◌, refl, sym, ap, subst₂, ◌∙◌}
use Prim.Native.Nat.{ℕ, ◌+◌, ◌-◌, ◌*◌, ◌≤◌}
use native.Mathlib.Nat.{one-mul, add-mul, mul_assoc, mul_comm, mul-le-mul_right, le_of_mul-le-mul_left}
use native.Mathlib.Omega.{arith}
use borrow.Author.Tests.{le-leb, lt-leb, eq-eqb, ne_eqb}
use Rattle.rounding.specs.Near.{near, NearestHalfUp, NearestHalfDown}
use Rattle.rounding.specs.Fraction.{Fraction, whole, ◌over◌, ◌⊗◌, ◌≈◌, nearest}
use Rattle.rounding.proofs.Laws.{near_same, near_window}
use Rattle.tables.proofs.Cases.{either}
use Rattle.pixel.specs.Inner.{AtMostWhite}
use Rattle.pixel.specs.Moving.{PixelSample, MovingSample}
use Rattle.pixel.specs.Lines.{line_of, counted, exactly}
use Rattle.pixel.specs.Move.{sample, intensity, moved_sample, moved}
use Rattle.pixel.specs.Paper.{Exact, paper, Rounds, MovesRoundThePaper, WithinHalf, MovesAreWithinHalf, InCube, PaperStaysInTheCube, NothingCutOff, FormulasAreExact}
use Rattle.pixel.specs.declared.Direction.{Direction}
use Rattle.pixel.specs.declared.Direction.TheVariants.{Up, Down}
use Rattle.pixel.specs.declared.Method.{Method}
use Rattle.pixel.proofs.Channels.{sample_each, inside}
use Rattle.pixel.proofs.Lines.{fits, at_most_255, moves_follow_lines, paper_follows_lines}

-- the sample n rounds the exact one, is at most half a step from it, and the exact one lies from 0 to 1
record RoundedFrom (e : Exact) (n : ℕ) : Type 0 where
  rounds : Rounds n e
  half : WithinHalf n e
  in_cube : InCube e

-- counted down from 255, what is nearest with halves up is nearest with halves down
counted_down : (q r n d : ℕ) → q + r ≡ 255 → n ≤ d → NearestHalfUp r (255 * n) (1 * d)
    → NearestHalfDown q (255 * (1 * d - n * 1)) (1 * (1 * d))
counted_down q r n d e le h =
    let total : q * d + r * d ≡ 255 * d = sym (add-mul q r d) ∙ ap (λ (t : ℕ). t * d) e in
    record { above = omega arith; below = omega arith }

-- x × n / d is at most 255, and is 255 times e
module _ {x n d : ℕ} (small : AtMostWhite x n d) (e : Fraction) (same : (x * n) over d ≈ whole 255 ⊗ e) where
  rounds_as : near (x * n) d ≡ nearest (whole 255 ⊗ e)
  rounds_as = near_same (x * n) d (255 * e.num) (1 * e.den) same.0 same.1 same.2

  pub at_most_one : e.num ≤ e.den
  at_most_one =
      let less = mul-le-mul_right (1 * e.den) small.small in
      let least : d * e.num ≤ d * e.den =
      omega (
        arith,
        less,
        same.2,
        mul_assoc 255 e.num d,
        mul_comm e.num d,
        mul_assoc 255 d (1 * e.den),
        ap (λ (m : ℕ). d * m) (one-mul e.den),
      ) in
      le_of_mul-le-mul_left least small.positive

  half_step : NearestHalfUp (near (x * n) d) (255 * e.num) (1 * e.den)
  half_step = rw rounds_as (near_window (255 * e.num) (1 * e.den) same.1)

  rounded_from : (way : Direction) → RoundedFrom (exactly way e) (counted way (near (x * n) d))
  rounded_from Up = record { rounds = rounds_as; half = half_step; in_cube = omega (arith, at_most_one) }
  rounded_from Down =
      let both : 255 - near (x * n) d + near (x * n) d ≡ 255 = omega (arith, at_most_255 small) in
      record {
        rounds = omega (arith, rounds_as);
        half = counted_down _ (near (x * n) d) e.num e.den both at_most_one half_step;
        in_cube = omega (arith, at_most_one);
      }

-- a sample of a pixel that is neither black nor white
moving_rounded : (m : Method) {s f c : ℕ} → MovingSample s f c
    → RoundedFrom (paper m (s over 255) (f over 255) (c over 255)) (moved_sample m s f c)
moving_rounded m {s} {f} {c} h =
    let on = paper_follows_lines m s f c h in
    subst₂ RoundedFrom (sym on.counts) (sym (moves_follow_lines m s f c h))
    (rounded_from (fits m h) on.x on.same (line_of m s f).direction)

-- and of black and white, by the paper's convention
sample_rounded : (m : Method) (s f c : ℕ) → PixelSample s f c
    → RoundedFrom (paper m (s over 255) (f over 255) (c over 255)) (moved_sample m s f c)
unfolding moved_sample paper near
sample_rounded m s f c h =
    either s 0
    (λ l. simp (eq-eqb s 0 (omega arith), le-leb (s * 1) 0 (omega arith)) (record { rounds = refl; half = omega arith; in_cube = omega arith }))
    (λ light.
    either 765 s
    (λ l.
    simp (
      ne_eqb s 0 (λ z. omega arith),
      lt-leb (s * 1) 0 (omega arith),
      eq-eqb s 765 (omega arith),
      le-leb 765 (s * 1) (omega arith),
    )
    (record { rounds = refl; half = omega arith; in_cube = omega arith }))
    (λ dark. moving_rounded m (record { inside = h; not_black = light; not_white = dark })))

pub moves_round_the_paper : MovesRoundThePaper
unfolding moved
moves_round_the_paper m p f a bytes le =
    rw (sample_each (moved_sample m (intensity p) f) p a)
    (sample_rounded m (intensity p) f (sample p a) (inside p f bytes le a)).rounds

pub moves_are_within_half : MovesAreWithinHalf
unfolding moved
moves_are_within_half m p f bytes le a =
    rw (sample_each (moved_sample m (intensity p) f) p a)
    (sample_rounded m (intensity p) f (sample p a) (inside p f bytes le a)).half

pub paper_stays_in_the_cube : PaperStaysInTheCube
paper_stays_in_the_cube m p f a bytes le =
    (sample_rounded m (intensity p) f (sample p a) (inside p f bytes le a)).in_cube

nothing_cut_off : {s f c : ℕ} → MovingSample s f c → NothingCutOff (s over 255) (f over 255) (c over 255)
nothing_cut_off {s} {f} {c} h =
    record {
      not_black = h.not_black;
      not_white = omega arith;
      intensity_fits = omega arith;
      target_fits = omega arith;
      sample_fits = omega arith;
      case_i = omega arith;
      case_iii = omega arith;
      case_iii_ii = omega arith;
    }

pub formulas_are_exact : FormulasAreExact
formulas_are_exact p f a bytes le light dark =
    nothing_cut_off (record { inside = inside p f bytes le a; not_black = light; not_white = dark })
