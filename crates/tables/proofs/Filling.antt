-- A loop that stores an entry at each place of a table of n entries in turn.
use mathlib.Core.Path.{◌≡◌, sym, refl, ◌∙◌}
use mathlib.Core.List.{List}
use Prim.Native.Nat.{ℕ, ◌+◌, ◌<◌, ◌≤◌, zero-le}
use native.Mathlib.Nat.{not-suc-le-zero}
use native.Mathlib.Omega.{arith}
use borrow.Author.Count.{below_more}
use lib.ListN.{length, set, length-set}
use lib.Seq.{get_or-set_same, get_or-set_other}
use Rattle.tables.specs.Table.{tabulate, at}
use Rattle.tables.proofs.Laws.{is_tabulate}

-- the loop's invariant: the table is whole, and holds f below i
pub record Filled (f : ℕ → ℕ) (n : ℕ) (table : List ℕ) (i : ℕ) : Type 0 where
  pub within : i ≤ n
  pub size : length table ≡ n
  pub done : (k : ℕ) → k < i → at table k ≡ f k

module _ (f : ℕ → ℕ) (n : ℕ) (table : List ℕ) where
  pub filled_start : length table ≡ n → Filled f n table 0
  filled_start size = record { within = zero-le; size = size; done = λ k h. absurd (not-suc-le-zero h) }

  pub filled_more : (i v : ℕ) → Filled f n table i → i < n → v ≡ f i → Filled f n (set table i v) (i + 1)
  filled_more i v filled less is = record {
    within = omega arith;
    size = length-set table i v ∙ filled.size;
    done =
        below_more _ i (λ k h. get_or-set_other table i k v 0 (λ z. omega arith) ∙ filled.done k h)
        (get_or-set_same table i v 0 (omega (arith, filled.size)) ∙ is);
  }

  pub filled_end : {i : ℕ} → Filled f n table i → n ≤ i → table ≡ tabulate f n
  filled_end {i} filled past = is_tabulate f n table filled.size (λ k h. filled.done k (omega arith))

-- a table that holds a list's entries is that list
pub filled_copy : (list : List ℕ) (n : ℕ) (table : List ℕ) {i : ℕ} → Filled (at list) n table i → n ≤ i → length list ≡ n → table ≡ list
filled_copy list n table filled past size =
    filled_end (at list) n table filled past ∙ sym (is_tabulate (at list) n list size (λ k h. refl))
