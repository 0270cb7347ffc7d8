-- What the functions of this crate that no customer calls require; their callers show it. No outside call's contract cites these.
use Rattle.std.specs.Prelude.{ℕ, ◌*◌, ◌<◌, ◌≤◌}

-- x × n / d is at most 255, and so is n / d; d is at most 1530 = 2 × 765, as every divisor of a move is.
pub record AtMostWhite (x n d : ℕ) : Type 0 where
  pub positive : 0 < d
  pub divisor : d ≤ 1530
  pub steep : n ≤ 255 * d
  pub small : x * n ≤ 255 * d
