-- A table is a list of a given length, by a rule for each place.
use mathlib.Core.List.{List, [], ◌∷◌, Memᴰ}
use Rattle.std.specs.Prelude.{ℕ, zero, suc, get_or}

-- f 0, f 1 and so on, n entries
unfoldable pub tabulate : {A : Type 0} → (ℕ → A) → ℕ → List A
tabulate f zero = []
tabulate f (suc n) = f 0 ∷ tabulate (λ k. f (suc k)) n

-- the entry at k
abbrev pub at : List ℕ → ℕ → ℕ
at table k = get_or table k 0

-- a is a member of the list
infix 50 ◌among◌
abbrev pub ◌among◌ : {A : Type 0} → A → List A → Type 0
a among list = Memᴰ a list
