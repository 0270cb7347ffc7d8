-- The lines, the moves, the factors and the paper's formulas, walked through once: in each case they are of one line, and this is what
-- later proofs use of it.
use mathlib.Core.Path.{◌≡◌, refl, ap, ◌∙◌}
use Prim.Native.Nat.{ℕ, ◌+◌, ◌-◌, ◌*◌, ◌<◌, ◌≤◌}
use native.Mathlib.Nat.{sub-zero, mul_comm, mul-le-mul}
use native.Mathlib.Omega.{arith}
use borrow.Author.Tests.{le-leb, lt-leb, ne_eqb}
use Rattle.rounding.specs.Fraction.{Fraction, ◌over◌}
use Rattle.rounding.specs.Near.{near}
use Rattle.rounding.proofs.Laws.{near_le}
use Rattle.tables.proofs.Cases.{either}
use Rattle.pixel.specs.Accuracy.{factor₁, factor₂, factor_by, factor}
use Rattle.pixel.specs.Inner.{AtMostWhite}
use Rattle.pixel.specs.Moving.{Moving, MovingSample}
use Rattle.pixel.specs.Lines.{up_from, down_from, naik_murthy_line, yang_lee_line, line_of, distance, fraction, exactly, on_line, MovesFollowLines, FactorsAreFractions, ExactOnLine, PaperFollowsLines}
use Rattle.pixel.specs.Move.{InRange, Channel.red, Channel.green, Channel.blue, intensity, naik_murthy, yang_lee, by_method, moved_sample}
use Rattle.pixel.specs.Paper.{Exact, paper₁, paper₂, paper_i, paper_iii, paper_by, paper}
use Rattle.pixel.specs.declared.Direction.{Direction}
use Rattle.pixel.specs.declared.Direction.TheVariants.{Up, Down}
use Rattle.pixel.specs.declared.Line.{Line}
use Rattle.pixel.specs.declared.Method.{Method}
use Rattle.pixel.specs.declared.Method.TheVariants.{NaikMurthy, YangLee}
use Rattle.pixel.specs.declared.Pixel.{Pixel}
use Rattle.pixel.proofs.Formulas.{Is255Times, case_i_lem, case_ii, case_i_i, case_i_ii, case_iii_i, case_iii_ii_lem}

-- the sample c is x above the start, or x below it
abbrev pub Away : Direction → ℕ → ℕ → ℕ → Type 0
Away Up start x c = x + start ≡ c
Away Down start x c = x + c ≡ start

-- the numerator is the target f, counted up from black or down from white
abbrev pub Aims : Direction → ℕ → ℕ → Type 0
Aims Up n f = n ≡ f
Aims Down n f = n + f ≡ 765

-- what is known of a sample c and a line that it moves along
pub record SampleFacts (line : Line) (c : ℕ) : Type 0 where
  pub away : Away line.direction line.start (distance line c) c
  pub byte : distance line c ≤ 255
  pub small : distance line c * line.numerator ≤ 255 * line.denominator

-- what is known of the line of the pixels of intensity s that are moved to f
pub record LineFacts (s f : ℕ) (line : Line) : Type 0 where
  pub positive : 0 < line.denominator
  pub divisor : line.denominator ≤ 1530
  pub steep : line.numerator ≤ 255 * line.denominator
  pub start : line.start ≤ 255
  pub aims : Aims line.direction line.numerator f
  pub samples : (c : ℕ) → MovingSample s f c → SampleFacts line c
  -- the distances of a pixel's three samples add up to the denominator
  pub total : (p : Pixel) → InRange p → intensity p ≡ s
      → distance line p.r + distance line p.g + distance line p.b ≡ line.denominator

-- the line, and the move, the factor and the paper's formula of the same pixels, which follow it
record Follows (s f : ℕ) (line : Line) (move : ℕ → ℕ) (k : Fraction) (formula : ℕ → Exact) : Type 0 where
  facts : LineFacts s f line
  moves : (c : ℕ) → MovingSample s f c → move c ≡ on_line line c
  factors : k ≡ fraction line
  exact : (c : ℕ) → MovingSample s f c → ExactOnLine line c (formula c)

-- what a line gives at a distance that it reaches
pub at_most_255 : {x n d : ℕ} → AtMostWhite x n d → near (x * n) d ≤ 255
at_most_255 {x} {n} {d} h = near_le d h.positive (x * n) 255 h.small

-- the distances of a bright pixel's samples from s − 510
bright_total : (r g b s : ℕ) → r + g + b ≡ s → 510 < s → s < 765 → r ≤ 255 → g ≤ 255 → b ≤ 255
    → r - (s - 510) + (g - (s - 510)) + (b - (s - 510)) ≡ 2 * (765 - s)
bright_total r g b s e bright white hr hg hb = omega arith

module _ {s f : ℕ} (h : Moving s f) where
  abbrev t : ℕ
  t = 765 - s

  -- the four lines, and what each asks of the intensity and the target
  up_from_0 : f ≤ 255 * s → ((c : ℕ) → MovingSample s f c → c * f ≤ 255 * s) → LineFacts s f (up_from 0 f s)
  up_from_0 steep small =
      record {
        positive = h.not_black;
        divisor = omega arith;
        steep = steep;
        start = omega arith;
        aims = refl;
        samples = λ c m. record { away = omega arith; byte = omega arith; small = rw (sub-zero c) (small c m) };
        total = λ p bytes e. omega arith;
      }

  down_from_255 : 765 - f ≤ 255 * t → ((c : ℕ) → MovingSample s f c → (255 - c) * (765 - f) ≤ 255 * t)
      → LineFacts s f (down_from 255 (765 - f) t)
  down_from_255 steep small =
      record {
        positive = omega arith;
        divisor = omega arith;
        steep = steep;
        start = omega arith;
        aims = omega arith;
        samples = λ c m. record { away = omega arith; byte = omega arith; small = small c m };
        total = λ p bytes e. omega (arith, bytes red, bytes green, bytes blue);
      }

  down_from_s : s ≤ 255 → 255 < f → LineFacts s f (down_from s (765 - f) (2 * s))
  down_from_s dark l =
      record {
        positive = omega arith;
        divisor = omega arith;
        steep = omega arith;
        start = dark;
        aims = omega arith;
        samples = λ c m.
            record {
              away = omega arith;
              byte = omega arith;
              small = omega (arith, mul-le-mul {n₁ = s - c} {m₁ = 765 - f} {n₂ = s} {m₂ = 510} (omega arith) (omega arith));
            };
        total = λ p bytes e. omega arith;
      }

  up_from_s : 510 < s → f ≤ 510 → LineFacts s f (up_from (s - 510) f (2 * t))
  up_from_s bright l =
      record {
        positive = omega arith;
        divisor = omega arith;
        steep = omega arith;
        start = omega arith;
        aims = refl;
        samples = λ c m.
            record {
              away = omega arith;
              byte = omega arith;
              small = omega (arith, mul-le-mul {n₁ = c - (s - 510)} {m₁ = f} {n₂ = t} {m₂ = 510} (omega arith) l);
            };
        total = λ p bytes e. bright_total p.r p.g p.b s e bright h.not_white (bytes red) (bytes green) (bytes blue);
      }

  -- a move, a fraction and a formula that follow a line
  along : (line : Line) {move : ℕ → ℕ} {formula : ℕ → Fraction} → LineFacts s f line
      → ((c : ℕ) → MovingSample s f c → move c ≡ on_line line c)
      → ((c : ℕ) → MovingSample s f c → Is255Times (distance line c) line.numerator line.denominator (formula c))
      → Follows s f line move (fraction line) (λ c. exactly line.direction (formula c))
  along line {move} {formula} facts moves exact =
      record {
        facts = facts;
        moves = moves;
        factors = refl;
        exact = λ c m. record { x = formula c; counts = refl; same = (exact c m).same };
      }

  -- the cases of the two methods, by the paper's names for them
  follows₁ : Follows s f (naik_murthy_line s f) (λ c. naik_murthy s f c) (factor₁ s f) (λ c. paper₁ (s over 255) (f over 255) (c over 255))
  unfolding naik_murthy_line naik_murthy factor₁ paper₁
  follows₁ =
      either f s
      (λ l.
      simp (le-leb f s l, le-leb (f * 255 * 1) (1 * (255 * s)) (omega arith))
      (along (up_from 0 f s) (up_from_0 (omega arith) (λ c m. mul-le-mul m.inside.byte l)) (λ c m. simp (sub-zero c)) (λ c m. case_i_lem m)))
      (λ l.
      simp (lt-leb f s l, lt-leb (f * 255 * 1) (1 * (255 * s)) (omega arith))
      (along (down_from 255 (765 - f) t)
      (down_from_255 (omega arith) (λ c m. mul-le-mul {n₁ = 255 - c} {m₁ = 765 - f} {n₂ = 255} {m₂ = t} (omega arith) (omega arith)))
      (λ c m. refl)
      (λ c m. case_ii m)))

  abbrev Follows₂ : Type 0
  Follows₂ = Follows s f (yang_lee_line s f) (λ c. yang_lee s f c) (factor₂ s f) (λ c. paper₂ (s over 255) (f over 255) (c over 255))

  follows_i : s ≤ 255 → Follows₂
  unfolding yang_lee_line yang_lee factor₂ paper₂ paper_i
  follows_i dark =
      simp (le-leb s 255 dark, le-leb (s * 1) 255 (omega arith))
      (either f 255
      (λ l.
      simp (le-leb f 255 l, le-leb (f * 1) 255 (omega arith))
      (along (up_from 0 f s) (up_from_0 (omega arith) (λ c m. omega (arith, mul-le-mul m.inside.part l))) (λ c m. simp (sub-zero c)) (λ c m. case_i_i m)))
      (λ l.
      simp (lt-leb f 255 l, lt-leb (f * 1) 255 (omega arith))
      (along (down_from s (765 - f) (2 * s)) (down_from_s dark l)
      (λ c m. ap (λ (n : ℕ). 255 - near n (2 * s)) (mul_comm (765 - f) (s - c)))
      (λ c m. case_i_ii m))))

  follows_ii : 255 < s → s ≤ 510 → Follows₂
  unfolding yang_lee_line yang_lee factor₂ paper₂
  follows_ii middle low =
      simp (lt-leb s 255 middle, lt-leb (s * 1) 255 (omega arith), le-leb s 510 low, le-leb (s * 1) 510 (omega arith)) follows₁

  follows_iii : 510 < s → Follows₂
  unfolding yang_lee_line yang_lee factor₂ paper₂ paper_iii
  follows_iii bright =
      simp (lt-leb s 255 (omega arith), lt-leb (s * 1) 255 (omega arith), lt-leb s 510 bright, lt-leb (s * 1) 510 (omega arith))
      (either f 510
      (λ l.
      simp (le-leb f 510 l, le-leb (f * 1) 510 (omega arith))
      (along (up_from (s - 510) f (2 * t)) (up_from_s bright l)
      (λ c m. ap (λ (n : ℕ). near n (2 * t)) (ap (λ (x : ℕ). f * x) (omega arith) ∙ mul_comm f (c - (s - 510))))
      (λ c m. case_iii_i m bright)))
      (λ l.
      simp (lt-leb f 510 l, lt-leb (f * 1) 510 (omega arith))
      (along (down_from 255 (765 - f) t)
      (down_from_255 (omega arith) (λ c m. omega (arith, mul-le-mul {n₁ = 255 - c} {m₁ = 765 - f} {n₂ = t} {m₂ = 255} (omega arith) (omega arith))))
      (λ c m. ap (λ (n : ℕ). 255 - near n t) (mul_comm (765 - f) (255 - c)))
      (λ c m. case_iii_ii_lem m))))

  follows_by : (m : Method) → Follows s f (line_of m s f) (by_method m s f) (factor_by m s f) (λ c. paper_by m (s over 255) (f over 255) (c over 255))
  follows_by NaikMurthy = follows₁
  follows_by YangLee = either s 255 follows_i (λ middle. either s 510 (follows_ii middle) follows_iii)

  -- the pixels are neither black nor white, which each definition has apart
  follows : (m : Method) → Follows s f (line_of m s f) (λ c. moved_sample m s f c) (factor m s f) (λ c. paper m (s over 255) (f over 255) (c over 255))
  unfolding moved_sample factor paper
  follows m =
      simp (
        ne_eqb s 0 (λ z. omega arith),
        ne_eqb s 765 (λ z. omega arith),
        lt-leb (s * 1) 0 (omega arith),
        lt-leb 765 (s * 1) (omega arith),
      )
      (follows_by m)

-- the intensity and the target of a sample that moves
pub moving : {s f c : ℕ} → MovingSample s f c → Moving s f
moving m = record { target = m.inside.target; not_black = m.not_black; not_white = m.not_white }

pub line_facts : (m : Method) {s f : ℕ} → Moving s f → LineFacts s f (line_of m s f)
line_facts m h = (follows h m).facts

-- what is known of a sample, and that its distance times the fraction rounds to a sample
module _ (m : Method) {s f c : ℕ} (h : MovingSample s f c) where
  abbrev line : Line
  line = line_of m s f

  pub sample_facts : SampleFacts line c
  sample_facts = (line_facts m (moving h)).samples c h

  pub fits : AtMostWhite (distance line c) line.numerator line.denominator
  fits =
      let facts = line_facts m (moving h) in
      record {
        positive = facts.positive;
        divisor = facts.divisor;
        steep = facts.steep;
        small = sample_facts.small;
      }

pub moves_follow_lines : MovesFollowLines
moves_follow_lines m s f c h = (follows (moving h) m).moves c h

pub factors_are_fractions : FactorsAreFractions
factors_are_fractions m s f h = (follows h m).factors

pub paper_follows_lines : PaperFollowsLines
paper_follows_lines m s f c h = (follows (moving h) m).exact c h
