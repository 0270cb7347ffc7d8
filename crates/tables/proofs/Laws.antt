-- Laws of tables.
use mathlib.Core.Path.{◌≡◌, refl, sym, ap₂, ◌∙◌}
use mathlib.Core.List.Memᴰ
use mathlib.Core.List.{List, ◌∷◌}
use mathlib.Core.Logic.{⊎_elim}
use Prim.Native.Nat.{ℕ, zero, suc, ◌<◌, suc-le-suc, zero-le}
use native.Mathlib.Nat.{not-suc-le-zero, le_of_suc-le-suc}
use native.Mathlib.Omega.{arith}
use lib.ListN.{length}
use lib.Seq.{ext_get_or}
use Rattle.tables.specs.Table.{tabulate, at, ◌among◌}

pub length_tabulate : {A : Type 0} (f : ℕ → A) (n : ℕ) → length (tabulate f n) ≡ n
unfolding tabulate
length_tabulate f zero = refl
length_tabulate f (suc n) = omega (arith, length_tabulate (λ k. f (suc k)) n)

pub at_tabulate : (f : ℕ → ℕ) (n k : ℕ) → k < n → at (tabulate f n) k ≡ f k
unfolding tabulate
at_tabulate f zero k h = absurd (not-suc-le-zero h)
at_tabulate f (suc n) zero h = refl
at_tabulate f (suc n) (suc k) h = at_tabulate (λ k. f (suc k)) n k (le_of_suc-le-suc h)

-- an entry of a list that is such a table
pub at_table : (f : ℕ → ℕ) (n : ℕ) (table : List ℕ) → table ≡ tabulate f n → (k : ℕ) → k < n → at table k ≡ f k
at_table f n table is k h = rw is (at_tabulate f n k h)

-- a table is known by its length and its entries
pub is_tabulate : (f : ℕ → ℕ) (n : ℕ) (table : List ℕ) → length table ≡ n → ((k : ℕ) → k < n → at table k ≡ f k) → table ≡ tabulate f n
is_tabulate f n table size entry =
    ext_get_or 0 table (tabulate f n) (size ∙ sym (length_tabulate f n))
    (λ k h. entry k (omega arith) ∙ sym (at_tabulate f n k (omega arith)))

-- rules that agree below n give one table
pub tabulate_same : {A : Type 0} (f g : ℕ → A) (n : ℕ) → ((k : ℕ) → k < n → f k ≡ g k) → tabulate f n ≡ tabulate g n
unfolding tabulate
tabulate_same f g zero same = refl
tabulate_same f g (suc n) same =
    ap₂ ◌∷◌ (same 0 (suc-le-suc zero-le)) (tabulate_same (λ k. f (suc k)) (λ k. g (suc k)) n (λ k h. same (suc k) (suc-le-suc h)))

-- a member stands at a place
pub tabulate_member : {A : Type 0} (f : ℕ → A) (n : ℕ) (a : A) → a among tabulate f n → (k : ℕ) × (k < n) × (a ≡ f k)
unfolding tabulate
tabulate_member f zero a m = absurd (Memᴰ.not-nil m)
tabulate_member f (suc n) a m =
    ⊎_elim (λ e. (0, suc-le-suc zero-le, e))
    (λ rest. let (k, h, e) = tabulate_member (λ k. f (suc k)) n a rest in (suc k, suc-le-suc h, e))
    (Memᴰ.cases_cons m)
