-- The place at which a sequence lies nearest to an aim (document 01, "Fixing the curve", choice 1): of two equal distances the
-- smaller place wins.
use Rattle.std.specs.Prelude.{◌≡◌, cond, ◌↔◌, ℕ, zero, suc, ◌+◌, ◌-◌, ◌≤◌, ◌<◌, ltb}

-- The distance of two numbers: one of the two differences is 0.
abbrev pub distance : ℕ → ℕ → ℕ
distance a b = (a - b) + (b - a)

-- What the words mean, among the places 0 to n: at no place is g nearer to the aim than at k, and at every smaller one it is
-- farther.
pub record Nearest (g : ℕ → ℕ) (n aim k : ℕ) : Type 0 where
  pub within : k ≤ n
  pub least : (j : ℕ) → j ≤ n → distance (g k) aim ≤ distance (g j) aim
  pub first : (j : ℕ) → j < k → distance (g k) aim < distance (g j) aim

-- j, if g lies nearer to the aim there than at k; else k.
unfoldable pub nearer : (ℕ → ℕ) → ℕ → ℕ → ℕ → ℕ
nearer g aim j k = cond (ltb (distance (g j) aim) (distance (g k) aim)) j k

-- That place, found by trying 0 to n one after the other.
unfoldable pub nearest_place : (ℕ → ℕ) → ℕ → ℕ → ℕ
nearest_place g zero aim = 0
nearest_place g (suc n) aim = nearer g aim (suc n) (nearest_place g n aim)

-- Claim: nearest_place g n aim is that place, and the only one. Proved: proofs/Nearest.antt, `nearest_means`.
abbrev pub NearestMeans : Type 0
NearestMeans = (g : ℕ → ℕ) (n aim k : ℕ) → Nearest g n aim k ↔ (k ≡ nearest_place g n aim)
