-- An array of `array::from_fn`, made by a closure that keeps what it captures.
use mathlib.Core.List.{List}
use mathlib.Core.Path.{◌≡◌, refl, sym, subst}
use Prim.Native.Nat.{ℕ, zero, suc, ◌+◌, ◌<◌}
use native.Mathlib.Omega.{arith}
use denote.Param.Members.{Mut}
use lib.ListN.{get_or}
use Rattle.std.specs.Array.{IsFromFnResultFrom, IsFromFnResult}
use Rattle.std.specs.Fn.{Called}

module _ {F A : Type 0} (g : Mut F (ℕ × Unit {0}) A) (rule : ℕ → A → Type 0) (f : F)
    (one : (i : ℕ) (a : A) (f' : F) → Called g f (i, tt) a f' → rule i a × (f' ≡ f)) (none : A) (table : List A) where
  made_from : (n i k m : ℕ) (f' : F) → f' ≡ f → IsFromFnResultFrom g f' table i n → k < n → i + k ≡ m
      → rule m (get_or table m none)
  made_from zero i k m f' e made h is = absurd (omega arith)
  made_from (suc n) i zero m f' e (q, a, at, called, rest) h is =
      let kept = (one i a q (subst (λ (x : F). Called g x (i, tt) a q) e called)).0 in
      subst (λ (j : ℕ). rule j (get_or table j none)) {x = i} (omega arith) (subst (rule i) (sym (at.1 none)) kept)
  made_from (suc n) i (suc k) m f' e (q, a, at, called, rest) h is =
      let kept = (one i a q (subst (λ (x : F). Called g x (i, tt) a q) e called)).1 in
      made_from n (i + 1) k m q kept rest (omega arith) (omega arith)

  -- what holds of what each call gives holds of the entry at its place (`none` stands past the table's end)
  pub made_by : (n : ℕ) → IsFromFnResult g f table n → (k : ℕ) → k < n → rule k (get_or table k none)
  made_by n made k h = made_from n 0 k k f refl made.each h (omega arith)
