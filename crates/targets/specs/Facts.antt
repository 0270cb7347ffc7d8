-- What is claimed of the cube's targets. Proved: proofs/Laws.antt, `targets_are_right`.
use Rattle.std.specs.Prelude.{◌≡◌, ℕ, ◌+◌, ◌*◌, ◌-◌, ◌≤◌, ◌<◌}
use Rattle.rounding.specs.Fraction.{whole, ◌over◌, ◌⊗◌, ◌≼◌, ◌≈◌}
use Rattle.targets.specs.Cube.{G, cubed, low, middle, high}
use Rattle.targets.specs.Paper.{area, added₂, taken₂, taken₃}

pub record TargetsAreRight : Type 0 where
  -- at 255 and 510 both neighbouring lines agree
  pub agree_at255 : low 255 ≡ middle 255
  pub agree_at510 : middle 510 ≡ high 510
  -- no subtraction of the middle and the high line is cut off at 0
  pub middle_is_exact : (k : ℕ) → k ≤ 765 → 2 * cubed k + 9 * (255 * 255) * k ≤ 3 * cubed 255 + 9 * 255 * (k * k)
  pub high_is_exact : (k : ℕ) → 510 ≤ k → k ≤ 765 → cubed (765 - k) ≤ 6 * cubed 255
  -- G rises strictly
  pub rises : (j k : ℕ) → j < k → k ≤ 765 → G j < G k
  -- document 01's figures
  pub at0 : G 0 ≡ 0
  pub at1 : G 1 ≡ 1
  pub at255 : G 255 ≡ 16581375
  pub at256 : G 256 ≡ 16777213
  pub at510 : G 510 ≡ 82906875
  pub at765 : G 765 ≡ 99488250
  -- G(k) is equation 11 at the intensity k/255, without its factor √3/6 and times 255³
  pub equation11 : (k : ℕ) → k ≤ 765 → whole (cubed 255) ⊗ area (k over 255) ≈ whole (G k)
  -- and no subtraction of equation 11 is cut off at 0 there
  pub area₂_is_exact : (k : ℕ) → k ≤ 765 → taken₂ (k over 255) ≼ added₂ (k over 255)
  pub area₃_is_exact : (k : ℕ) → 510 ≤ k → k ≤ 765 → (k over 255 ≼ whole 3) × (taken₃ (k over 255) ≼ whole 6)
