-- Rounding many multiples of one fraction with one division: the slope n / d is held once, in parts of 1 / (2 × half), and each
-- multiple is then a multiplication, an addition and, where 2 × half is a power of two, a shift.
use Rattle.std.specs.Prelude.{◌≡◌, ℕ, ◌+◌, ◌*◌, ◌/◌, ◌<◌}
use Rattle.rounding.specs.Near.{near}

-- The parts of n / d: the whole ones, and one more, so that no multiple falls short.
abbrev pub slope : ℕ → ℕ → ℕ → ℕ
slope half n d = n * (2 * half) / d + 1

-- Claim: where x × d is less than half, x slopes and a half, in whole steps, are near(x × n / d). Proved: proofs/Slope.antt,
-- `multiply_and_shift`.
abbrev pub MultiplyAndShift : Type 0
MultiplyAndShift =
    (half x n d : ℕ) → 0 < d → x * d < half → (x * slope half n d + half) / (2 * half) ≡ near (x * n) d
