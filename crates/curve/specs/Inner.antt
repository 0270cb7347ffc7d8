-- What the functions of this crate that no customer calls require and ensure; their callers show it. No outside call's contract cites
-- these.
use Rattle.std.specs.Prelude.{◌≡◌, List, ℕ, ◌*◌, ◌^◌, ◌≤◌, ◌<◌}
use Rattle.tables.specs.Table.{at}
use Rattle.measuring.specs.Histogram.{cumulative}

-- Every place before `upper` is below the aim.
abbrev pub Below : List ℕ → ℕ → ℕ → Type 0
Below g aim upper = (j : ℕ) → j < upper → at g j < aim

-- `lower` is the first place that holds as much as the one before `upper`; both are 0 where there is none.
pub record Plateau (g : List ℕ) (lower upper : ℕ) : Type 0 where
  pub within : upper ≤ 766
  pub ordered : lower ≤ upper
  pub inside : 0 < upper → lower < upper
  pub level : (j : ℕ) → lower ≤ j → j < upper → at g j ≡ at g lower
  pub less : (j : ℕ) → j < lower → at g j < at g lower

-- That, and `upper` is the first of the 766 places that holds at least the aim, or 766.
pub record Bounding (g : List ℕ) (aim lower upper : ℕ) : Type 0 where
  pub level : Plateau g lower upper
  pub below : Below g aim upper
  pub above : (j : ℕ) → upper ≤ j → j ≤ 765 → aim ≤ at g j

-- The counts add up to n, at least 1 and at most 2^31.
pub record HistogramOf (n : ℕ) (counts : List ℕ) : Type 0 where
  pub all : cumulative counts 765 ≡ n
  pub some : 0 < n
  pub most : n ≤ 2 ^ 31

-- No share count is larger than the full count, which is positive and at most 2^32.
pub record SharesFit (full : ℕ) (shares : List ℕ) : Type 0 where
  pub some : 0 < full
  pub most : full ≤ 2 ^ 32
  pub part : (s : ℕ) → s ≤ 765 → at shares s ≤ full

-- Every share count times the scale fits into 64 bits.
abbrev pub AimsFit : ℕ → List ℕ → Type 0
AimsFit scale shares = (s : ℕ) → s ≤ 765 → scale * at shares s < 2 ^ 64
