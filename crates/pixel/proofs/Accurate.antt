-- A moved pixel is accurate. The rules are shown once, over the distances of the samples from a line's start, which add up to its
-- denominator.
use mathlib.Core.Path.{◌≡◌, refl, sym, ap, subst, ◌∙◌}
use mathlib.Core.Logic.{⊎_elim}
use Prim.Native.Nat.{ℕ, ◌+◌, ◌*◌, ◌<◌, ◌≤◌}
use native.Mathlib.Nat.{mul_comm, add-mul, mul-le-mul_right}
use native.Mathlib.Omega.{arith}
use borrow.Author.Tests.{eq-eqb, ne_eqb}
use Rattle.rounding.specs.Near.{near}
use Rattle.rounding.specs.Fraction.{Fraction, whole, ◌over◌}
use Rattle.rounding.proofs.Laws.{near_le, near_mono, near_sum, near_difference, WithinOne}
use Rattle.tables.proofs.Cases.{either}
use Rattle.pixel.specs.Moving.{Moving, MovingSample}
use Rattle.pixel.specs.Lines.{line_of, distance, counted}
use Rattle.pixel.specs.Move.{Channel, Channel.red, Channel.green, Channel.blue, sample, InRange, intensity, moved_sample, moved, each_sample}
use Rattle.pixel.specs.Accuracy.{factor, mission, PixelAccurate, MovesAreAccurate, EndsStay}
use Rattle.pixel.specs.declared.Direction.{Direction}
use Rattle.pixel.specs.declared.Direction.TheVariants.{Up, Down}
use Rattle.pixel.specs.declared.Method.{Method}
use Rattle.pixel.specs.declared.Pixel.{Pixel}
use Rattle.pixel.proofs.Channels.{sample_each, inside, black_samples, white_samples}
use Rattle.pixel.proofs.Lines.{Away, Aims, line_facts, moves_follow_lines, factors_are_fractions}

-- the three distances x, times n / d and rounded
module _ (x : Channel → ℕ) (n d : ℕ) (positive : 0 < d) (total : x red + x green + x blue ≡ d) where
  abbrev rounded : Channel → ℕ
  rounded a = near (x a * n) d

  rounded_order : (a b : Channel) → x a ≤ x b → rounded a ≤ rounded b
  rounded_order a b h = near_mono d positive (x a * n) (x b * n) (mul-le-mul_right n h)

  rounded_sum : WithinOne n (rounded red + rounded green + rounded blue)
  rounded_sum =
      near_sum d positive n (x red * n) (x green * n) (x blue * n)
      (omega (
        arith,
        add-mul (x red + x green) (x blue) n,
        add-mul (x red) (x green) n,
        ap (λ (t : ℕ). t * n) total,
        mul_comm d n,
      ))

  -- a pixel p that is moved along the line to q
  module _ (p q : Pixel) (start f : ℕ) (small : (a : Channel) → x a * n ≤ 255 * d) where
    rounded_range : (a : Channel) → rounded a ≤ 255
    rounded_range a = near_le d positive (x a * n) 255 (small a)

    -- counted down from white, a sample and what it is rounded from make up 255
    make_up : ((a : Channel) → sample q a ≡ counted Down (rounded a)) → (a : Channel) → sample q a + rounded a ≡ 255
    make_up out a = omega (arith, out a, rounded_range a)

    -- two samples part by less than a full step more than their distances do
    step : (way : Direction) → ((a : Channel) → Away way start (x a) (sample p a)) → ((a : Channel) → sample q a ≡ counted way (rounded a))
        → (a b : Channel) → sample q a * d + sample p b * n < sample q b * d + sample p a * n + 1 * d
    step Up away out a b =
        omega (
          arith,
          near_difference d positive (x a * n) (x b * n),
          ap (λ (t : ℕ). t * d) (out a),
          ap (λ (t : ℕ). t * d) (out b),
          ap (λ (t : ℕ). t * n) (away a),
          ap (λ (t : ℕ). t * n) (away b),
          add-mul (x a) start n,
          add-mul (x b) start n,
        )
    step Down away out a b =
        omega (
          arith,
          near_difference d positive (x b * n) (x a * n),
          ap (λ (t : ℕ). t * d) (make_up out a),
          ap (λ (t : ℕ). t * d) (make_up out b),
          ap (λ (t : ℕ). t * n) (away a),
          ap (λ (t : ℕ). t * n) (away b),
          add-mul (sample q a) (rounded a) d,
          add-mul (sample q b) (rounded b) d,
          add-mul (x a) (sample p a) n,
          add-mul (x b) (sample p b) n,
        )

    along_line : (way : Direction) → Aims way n f → ((a : Channel) → Away way start (x a) (sample p a))
        → ((a : Channel) → sample q a ≡ counted way (rounded a)) → PixelAccurate mission (n over d) (whole f) p q
    along_line Up aims away out =
        record {
          range = λ a. omega (arith, out a, rounded_range a);
          sum = (omega arith, omega arith, omega arith, omega (arith, rounded_sum, out red, out green, out blue), omega (arith, rounded_sum, out red, out green, out blue));
          channels = record {
            denominator = positive;
            order = λ a b h. omega (arith, out a, out b, rounded_order a b (omega (arith, away a, away b)));
            difference = λ a b. (step Up away out a b, step Up away out b a);
          };
        }
    along_line Down aims away out =
        let both = make_up out in
        record {
          range = λ a. omega (arith, out a);
          sum = (omega arith, omega arith, omega arith, omega (arith, rounded_sum, both red, both green, both blue), omega (arith, rounded_sum, both red, both green, both blue));
          channels = record {
            denominator = positive;
            order = λ a b h. omega (arith, both a, both b, rounded_order b a (omega (arith, away a, away b)));
            difference = λ a b. (step Down away out a b, step Down away out b a);
          };
        }

-- a pixel that is neither black nor white
moving_accurate : (m : Method) (p : Pixel) (f : ℕ) → InRange p → Moving (intensity p) f
    → PixelAccurate mission (factor m (intensity p) f) (whole f) p (moved m p f)
unfolding moved
moving_accurate m p f bytes h =
    let s = intensity p in
    let line = line_of m s f in
    let facts = line_facts m h in
    let moving : (a : Channel) → MovingSample s f (sample p a) =
    λ a. record { inside = inside p f bytes h.target a; not_black = h.not_black; not_white = h.not_white } in
    subst (λ (k : Fraction). PixelAccurate mission k (whole f) p (each_sample (moved_sample m s f) p)) (sym (factors_are_fractions m s f h))
    (along_line (λ a. distance line (sample p a)) line.numerator line.denominator facts.positive (facts.total p bytes refl)
    p (each_sample (moved_sample m s f) p) line.start f (λ a. (facts.samples (sample p a) (moving a)).small)
    line.direction facts.aims (λ a. (facts.samples (sample p a) (moving a)).away)
    (λ a. sample_each (moved_sample m s f) p a ∙ moves_follow_lines m s f (sample p a) (moving a)))

-- a pixel whose samples are all c, and stay so
flat_accurate : (p : Pixel) (c : ℕ) → c ≤ 255 → ((a : Channel) → sample p a ≡ c)
    → PixelAccurate mission (1 over 1) (whole (c + c + c)) p (each_sample (λ _. c) p)
flat_accurate p c le flat =
    let out = sample_each (λ _. c) p in
    record {
      range = λ a. omega (arith, out a);
      sum = (omega arith, omega arith, omega arith, omega arith, omega arith);
      channels = record {
        denominator = omega arith;
        order = λ a b h. omega (arith, out a, out b);
        difference = λ a b. (omega (arith, out a, out b, flat a, flat b), omega (arith, out a, out b, flat a, flat b));
      };
    }

flat_stays : (p : Pixel) (c : ℕ) → ((a : Channel) → sample p a ≡ c) → each_sample (λ _. c) p ≡ p
flat_stays p c flat = λ i. record { r = sym (flat red) i; g = sym (flat green) i; b = sym (flat blue) i }

pub moves_are_accurate : MovesAreAccurate
unfolding moved moved_sample factor
moves_are_accurate m p f bytes le ends =
    either (intensity p) 0
    (λ l.
    let e : intensity p ≡ 0 = omega arith in
    simp (eq-eqb _ _ e, ends.black e) (flat_accurate p 0 (omega arith) (black_samples p e)))
    (λ light.
    either 765 (intensity p)
    (λ l.
    let e : intensity p ≡ 765 = omega (arith, bytes red, bytes green, bytes blue) in
    simp (ne_eqb (intensity p) 0 (λ z. omega arith), eq-eqb _ _ e, ends.white e)
    (flat_accurate p 255 (omega arith) (white_samples p bytes e)))
    (λ dark. moving_accurate m p f bytes (record { target = le; not_black = light; not_white = dark })))

pub ends_stay : EndsStay
unfolding moved moved_sample
ends_stay m p f bytes ends =
    ⊎_elim
    (λ (e : intensity p ≡ 0). simp (eq-eqb (intensity p) 0 e) (flat_stays p 0 (black_samples p e)))
    (λ (e : intensity p ≡ 765).
    simp (ne_eqb (intensity p) 0 (λ z. omega arith), eq-eqb (intensity p) 765 e) (flat_stays p 255 (white_samples p bytes e)))
    ends
