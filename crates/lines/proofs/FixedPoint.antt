-- A line in fixed point gives at each sample what the line itself gives: the rounded multiple of its fraction, counted up from black or down
-- from white.
use mathlib.Core.Path.{◌≡◌, sym, ap, ◌∙◌}
use Prim.Native.Nat.{ℕ, ◌+◌, ◌-◌, ◌*◌, ◌/◌, ◌%◌, ◌^◌, ◌≤◌, ◌<◌}
use native.Mathlib.Nat.{add-mul, mul-le-mul, mul-le-mul_right, div-lt_iff_lt-mul}
use native.Mathlib.Omega.{arith}
use Rattle.rounding.specs.Near.{near}
use Rattle.rounding.specs.Slope.{slope}
use Rattle.rounding.proofs.Slope.{multiply_and_shift}
use Rattle.pixel.specs.Moving.{Moving, MovingSample}
use Rattle.pixel.specs.Lines.{line_of, distance, counted}
use Rattle.pixel.specs.Move.{moved_sample}
use Rattle.pixel.specs.declared.Direction.{Direction}
use Rattle.pixel.specs.declared.Direction.TheVariants.{Up, Down}
use Rattle.pixel.specs.declared.Method.{Method}
use Rattle.pixel.proofs.Lines.{Away, line_facts, sample_facts, fits, at_most_255, moving, moves_follow_lines}
use Rattle.lines.specs.Line.{half, sample_at, line_from, start_parts, in_fixed_point, Holdable}

-- Parts that are counted from f, with so many of them added, in whole steps: f falls away.
steps_up : (x f parts v : ℕ) → f < 2 ^ 40 → parts < 2 ^ 32 → (x + parts) / 2 ^ 24 ≡ v → v ≤ 255
    → (x + f + (2 ^ 40 + parts - f) % 2 ^ 32) % 2 ^ 32 / 2 ^ 24 ≡ v
steps_up x f parts v fits small rounds white = omega arith

-- Parts that are counted down to f, from the last part of 256 steps less a half.
steps_down : (x y f v : ℕ) → x + y ≡ f → f < 2 ^ 40 → (x + half) / 2 ^ 24 ≡ v → v ≤ 255
    → (y + (2 ^ 40 + (2 ^ 32 - 1 - half) - f) % 2 ^ 32) % 2 ^ 32 / 2 ^ 24 ≡ 255 - v
steps_down x y f v sum fits rounds white = omega arith

module _ {start n d : ℕ} (h : Holdable start n d) where
  abbrev a : ℕ
  a = slope half n d

  -- a slope of at most 255 steps, so that `start` of them stay below 2^40
  pub slope_fits : a ≤ 255 * 2 ^ 24 + 1
  slope_fits =
      let parts = mul-le-mul_right {m = n} {n = 255 * d} (2 ^ 24) h.steep in
      let below : n * 2 ^ 24 / d < 255 * 2 ^ 24 + 1 =
      (div-lt_iff_lt-mul h.positive).1 (omega arith) in
      omega arith

  pub start_fits : start * a < 2 ^ 40
  start_fits = omega (arith, mul-le-mul {n₁ = start} {m₁ = a} {n₂ = 255} {m₂ = 255 * 2 ^ 24 + 1} h.byte slope_fits)

  -- at the sample c, x above or below the start
  module _ (x c : ℕ) (byte : x ≤ 255) (white : near (x * n) d ≤ 255) where
    rounds : (x * a + half) / 2 ^ 24 ≡ near (x * n) d
    rounds =
        multiply_and_shift half x n d h.positive
        (omega (arith, mul-le-mul {n₁ = x} {m₁ = d} {n₂ = 255} {m₂ = 1530} byte h.divisor))

    sample_on : (way : Direction) → Away way start x c → sample_at (line_from start n d (start_parts way)) c ≡ counted way (near (x * n) d)
    sample_on Up e =
        ap (λ (k : ℕ). (k + (2 ^ 40 + half - start * a) % 2 ^ 32) % 2 ^ 32 / 2 ^ 24) (ap (λ (k : ℕ). k * a) (sym e) ∙ add-mul x start a)
        ∙ steps_up (x * a) (start * a) half (near (x * n) d) start_fits (omega arith) rounds white
    sample_on Down e =
        steps_down (x * a) (c * a) (start * a) (near (x * n) d) (sym (add-mul x c a) ∙ ap (λ (k : ℕ). k * a) e) start_fits rounds white

-- the lines that pixels move along can be held
pub holdable : (m : Method) {s f : ℕ} → Moving s f
    → (let line = line_of m s f in Holdable line.start line.numerator line.denominator)
holdable m h =
    let facts = line_facts m h in
    record { positive = facts.positive; divisor = facts.divisor; steep = facts.steep; byte = facts.start }

-- and give each sample where it moves
pub fixed_moves : (m : Method) {s f c : ℕ} → MovingSample s f c → sample_at (in_fixed_point (line_of m s f)) c ≡ moved_sample m s f c
fixed_moves m {s} {f} {c} h =
    let line = line_of m s f in
    sample_on (holdable m (moving h)) (distance line c) c (sample_facts m h).byte (at_most_255 (fits m h)) line.direction (sample_facts m h).away
    ∙ sym (moves_follow_lines m s f c h)
