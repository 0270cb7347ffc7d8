-- What a shot keeps, as contracts and claims read it. A flag and entries, not an Option: the customer left free what an unfixed shot keeps
-- where its curve will stand, and the claims on a fixed shot read its entries at once.
use Rattle.std.specs.Prelude.{Bool, List, ℕ}

-- How many of its pixels have each intensity, how many they are, whether it is fixed, and its tone curve, which nothing reads before.
pub record State : Type 0 where
  pub counts : List ℕ
  pub pixels : ℕ
  pub fixed : Bool
  pub curve : List ℕ
