-- A pixel that is mixed with its full balance.
use mathlib.Core.Path.{◌≡◌, refl, ap, ap₂, ◌∙◌}
use Prim.Native.Nat.{ℕ, ◌+◌, ◌-◌, ◌*◌, ◌<◌, ◌≤◌}
use native.Mathlib.Nat.{one-mul, mul-one, mul_comm, mul_assoc, mul_left_comm, add-mul, mul-add, mul-le-mul_right, mul-lt-mul_of_pos_right, le_of_lt}
use native.Mathlib.Omega.{arith}
use Rattle.rounding.specs.Fraction.{Fraction, whole, ◌over◌, ◌⊕◌, ◌⊗◌, ◌⊘◌}
use Rattle.rounding.specs.Near.{near}
use Rattle.rounding.proofs.Laws.{near_window, near_le, near_mono, near_difference}
use Rattle.pixel.specs.Accuracy.{KeepsDifferences, mission, PixelAccurate}
use Rattle.pixel.specs.Move.{Channel, Channel.red, Channel.green, Channel.blue, sample, InRange, intensity, moved}
use Rattle.pixel.specs.declared.Pixel.{Pixel}
use Rattle.settings.specs.Accuracy.{mix_tolerance}
use Rattle.settings.specs.Setting.{mixed, mixed_pixel, AmountOneMoves}

-- the floor of n / 256 and a half is the nearest to n / 256
mixed_near : (k c c' : ℕ) → mixed k c c' ≡ near (c * (256 - k) + c' * k) 256
unfolding mixed near
mixed_near k c c' = omega arith

pub sample_mixed : (k : ℕ) (p q : Pixel) (a : Channel) → sample (mixed_pixel k p q) a ≡ mixed k (sample p a) (sample q a)
sample_mixed k p q red = refl
sample_mixed k p q green = refl
sample_mixed k p q blue = refl

-- at amount 1 the full balance is written
mixed_all : (c c' : ℕ) → mixed 256 c c' ≡ c'
unfolding mixed
mixed_all c c' = omega arith

pub mixed_full : (k : ℕ) (p q : Pixel) → k ≡ 256 → mixed_pixel k p q ≡ q
mixed_full k p q e =
    ap (λ (j : ℕ). mixed_pixel j p q) e
    ∙ (λ i. record { r = mixed_all p.r q.r i; g = mixed_all p.g q.g i; b = mixed_all p.b q.b i })

pub amount_one_moves : AmountOneMoves
amount_one_moves m p f = mixed_full 256 p (moved m p f) refl

-- (256 − k + k × factor) / 256
abbrev pub mix_factor : ℕ → Fraction → Fraction
mix_factor k factor = (whole (256 - k) ⊕ whole k ⊗ factor) ⊘ whole 256

-- over one denominator
over_one : (k : ℕ) (factor : Fraction) → mix_factor k factor ≡ ((256 - k) * factor.den + k * factor.num) over (256 * factor.den)
over_one k factor = ap₂ ◌over◌ (simp (one-mul, mul-one)) (simp (one-mul, mul_comm factor.den 256))

module _ (k : ℕ) (le : k ≤ 256) where
  -- the order of samples stays
  mixed_order : (x y x' y' : ℕ) → x ≤ y → x' ≤ y' → mixed k x x' ≤ mixed k y y'
  mixed_order x y x' y' h h' =
      rw (mixed_near k x x', mixed_near k y y')
      (near_mono 256 (omega arith) _ _ (omega (arith, mul-le-mul_right (256 - k) h, mul-le-mul_right k h')))

  mixed_range : (c c' : ℕ) → c ≤ 255 → c' ≤ 255 → mixed k c c' ≤ 255
  mixed_range c c' h h' =
      rw (mixed_near k c c')
      (near_le 256 (omega arith) _ 255 (omega (arith, mul-le-mul_right (256 - k) h, mul-le-mul_right k h')))

  -- three halves more than the balance's one: 640 / 256 are five halves
  mixed_sum : (p q : Pixel) (f : ℕ) → intensity q ≤ f + 1 → f ≤ intensity q + 1
      → (256 * intensity (mixed_pixel k p q) ≤ intensity p * (256 - k) + f * k + 640)
      × (intensity p * (256 - k) + f * k ≤ 256 * intensity (mixed_pixel k p q) + 640)
  mixed_sum p q f above below =
      let j = 256 - k in
      let window : (c c' : ℕ) → (512 * mixed k c c' ≤ 2 * (c * j + c' * k) + 256) × (2 * (c * j + c' * k) < 512 * mixed k c c' + 256) =
      λ c c'.
      let w = near_window (c * j + c' * k) 256 (omega arith) in
      let e = mixed_near k c c' in
      (omega arith, omega arith) in
      let r = window p.r q.r in
      let g = window p.g q.g in
      let b = window p.b q.b in
      let sums = add-mul (p.r + p.g) p.b j in
      let sums' = add-mul p.r p.g j in
      let balances = add-mul (q.r + q.g) q.b k in
      let balances' = add-mul q.r q.g k in
      let most = mul-le-mul_right k above in
      let least = mul-le-mul_right k below in
      let more = add-mul f 1 k in
      let more' = add-mul (intensity q) 1 k in
      (omega arith, omega arith)

  -- a step more than the balance's one
  steps : (X Y x y x' y' j n d : ℕ) → 0 < d → X * 256 + (y * j + y' * k) < Y * 256 + (x * j + x' * k) + 256
      → x' * d + y * n < y' * d + x * n + 1 * d
      → X * (256 * d) + y * (j * d + k * n) < Y * (256 * d) + x * (j * d + k * n) + 2 * (256 * d)
  steps X Y x y x' y' j n d positive mixes balances =
      let first = simp (add-mul, mul_assoc) at (mul-lt-mul_of_pos_right {k = d} mixes positive) in
      let second = simp (add-mul, mul_assoc, one-mul, mul_comm d k, mul_comm n k) at (mul-le-mul_right k (le_of_lt balances)) in
      omega (arith, mul-add x (j * d) (k * n), mul-add y (j * d) (k * n), mul-le-mul_right d le)

  -- a pixel whose balance keeps differences to less than a step keeps them, mixed, to less than two
  pub mixed_differences : (factor : Fraction) (p q : Pixel) → KeepsDifferences 1 factor p q
      → KeepsDifferences 2 (mix_factor k factor) p (mixed_pixel k p q)
  mixed_differences factor p q d =
      let apart : (a b : Channel) → mixed k (sample p a) (sample q a) * (256 * factor.den) + sample p b * ((256 - k) * factor.den + k * factor.num)
      < mixed k (sample p b) (sample q b) * (256 * factor.den) + sample p a * ((256 - k) * factor.den + k * factor.num) + 2 * (256 * factor.den) =
      λ a b.
      steps _ _ (sample p a) (sample p b) (sample q a) (sample q b) (256 - k) factor.num factor.den d.denominator
      (rw (mixed_near k (sample p a) (sample q a), mixed_near k (sample p b) (sample q b)) (near_difference 256 (omega arith) _ _))
      (d.difference a b).0 in
      rw (over_one k factor)
      (record {
        denominator = omega (arith, d.denominator);
        order = λ a b h. rw (sample_mixed k p q a, sample_mixed k p q b) (mixed_order _ _ _ _ h (d.order a b h));
        difference = λ a b. rw (sample_mixed k p q a, sample_mixed k p q b) (apart a b, apart b a);
      })

  -- and one whose balance keeps the mission's rules keeps those of the mix
  pub mixed_accurate : (factor : Fraction) (f : ℕ) (p q : Pixel) → InRange p → PixelAccurate mission factor (whole f) p q
      → PixelAccurate mix_tolerance (mix_factor k factor) ((intensity p * (256 - k) + f * k) over 256) p (mixed_pixel k p q)
  mixed_accurate factor f p q bytes balance =
      let sums = mixed_sum p q f (omega (arith, balance.sum)) (omega (arith, balance.sum)) in
      record {
        range = λ a. rw (sample_mixed k p q a) (mixed_range (sample p a) (sample q a) (bytes a) (balance.range a));
        sum = (omega arith, omega arith, omega arith, omega (arith, sums.0), omega (arith, sums.1));
        channels = mixed_differences factor p q balance.channels;
      }

-- at amount 1 the mix's factor and intensity are the balance's
pub full_accurate : (factor : Fraction) (f : ℕ) (p q : Pixel) → PixelAccurate mission factor (whole f) p q
    → PixelAccurate mission (mix_factor 256 factor) ((intensity p * (256 - 256) + f * 256) over 256) p q
full_accurate factor f p q balance =
    let d = balance.channels in
    let scaled : (a b : Channel) → sample q a * (256 * factor.den) + sample p b * (0 * factor.den + 256 * factor.num)
    < sample q b * (256 * factor.den) + sample p a * (0 * factor.den + 256 * factor.num) + 1 * (256 * factor.den) =
    λ a b.
    omega (
      arith,
      (d.difference a b).0,
      mul_left_comm (sample q a) 256 factor.den,
      mul_left_comm (sample q b) 256 factor.den,
      mul_left_comm (sample p a) 256 factor.num,
      mul_left_comm (sample p b) 256 factor.num,
    ) in
    rw (over_one 256 factor)
    (record {
      range = balance.range;
      sum = (omega arith, omega arith, omega arith, omega (arith, balance.sum), omega (arith, balance.sum));
      channels = record {
        denominator = omega (arith, d.denominator);
        order = d.order;
        difference = λ a b. (scaled a b, scaled b a);
      };
    })
