-- Samples, intensities and targets, as the lines of a move have them.
use Rattle.std.specs.Prelude.{ℕ, ◌+◌, ◌<◌, ◌≤◌}

-- The pixels of intensity s are neither black nor white, and f is a target.
pub record Moving (s f : ℕ) : Type 0 where
  pub target : f ≤ 765
  pub not_black : 0 < s
  pub not_white : s < 765

-- c is a sample of a pixel of intensity s, and f a target.
pub record PixelSample (s f c : ℕ) : Type 0 where
  pub target : f ≤ 765
  pub byte : c ≤ 255
  -- the other two samples are at least 0 and at most 255
  pub part : c ≤ s
  pub rest : s ≤ c + 510

-- The same, and the pixel is neither black nor white.
pub record MovingSample (s f c : ℕ) : Type 0 where
  pub inside : PixelSample s f c
  pub not_black : 0 < s
  pub not_white : s < 765
