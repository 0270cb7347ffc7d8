-- Rounding (document 01, "Moving a pixel": "Near" means the nearest whole number, halves up, of the exact fraction).
use Rattle.std.specs.Prelude.{◌≡◌, ◌↔◌, ℕ, ◌+◌, ◌*◌, ◌/◌, ◌<◌, ◌≤◌}

-- near(n / d): the floor of n/d + 1/2.
unfoldable pub near : ℕ → ℕ → ℕ
near n d = (2 * n + d) / (2 * d)

-- What the words mean: q is at most half a step above n / d, and less than half a step below it.
pub record NearestHalfUp (q n d : ℕ) : Type 0 where
  pub above : 2 * (q * d) ≤ 2 * n + d
  pub below : 2 * n < 2 * (q * d) + d

-- The same for halves down: less than half a step above n / d, and at most half a step below it.
pub record NearestHalfDown (q n d : ℕ) : Type 0 where
  pub above : 2 * (q * d) < 2 * n + d
  pub below : 2 * n ≤ 2 * (q * d) + d

-- Claim: near n d is the nearest with halves up, and the only one. Proved: proofs/Laws.antt, `near_means`.
abbrev pub NearMeans : Type 0
NearMeans = (q n d : ℕ) → 0 < d → NearestHalfUp q n d ↔ (q ≡ near n d)
