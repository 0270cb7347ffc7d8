-- The book reads a dial as decoding has it.
use mathlib.Core.Path.{◌≡◌, refl, sym, ap, ◌∙◌, subst}
use mathlib.Core.Bool.{Bool, true, false, not, ◌||◌, cond, false≢true}
use mathlib.Core.Logic.{⊎_elim}
use Rattle.std.proofs.Common.{Option, None, Some}
use Prim.Native.Nat.{ℕ, zero, suc, ◌*◌, ◌<◌}
use native.Mathlib.Nat.{not-suc-le-zero, eq-or-lt_of_le}
use native.Mathlib.Omega.{arith}
use borrow.Author.Tests.{eqb-true, eq-eqb}
use lib.Dec.{eqb}
use lib.Ieee.{Float, nan, inf, fin, up, down}
use Rattle.std.proofs.lemmas.Bool.{and_parts}
use Rattle.dial.specs.Dial.{IsExactly, whole_of, Decoded, as_mix, as_hold, decoded, refusal_of, setting_of}
use Rattle.dial.specs.declared.Dial.{Dial}
use Rattle.dial.specs.declared.Dial.TheVariants as D
use Rattle.dial.proofs.Exact.{complete, none as no_whole}
use Rattle.book.specs.Reading.{is_quotient, exact_below, stop, held_intensity, is_there, amount_is_stop, value_is_intensity, setting_read}

-- the test is the meaning
exact_means : (x : Float) (k n : ℕ) → is_quotient x k n ≡ true → IsExactly x k n
exact_means nan k n e = false≢true e
exact_means (inf s) k n e = false≢true e
exact_means (fin s m e) k n t =
    let (sign, same) = and_parts (not s || eqb k 0) (eqb (m * up e * n) (k * down e)) t in
    (sign, eqb-true (m * up e * n) (k * down e) same)

means_exact : (x : Float) (k n : ℕ) → IsExactly x k n → is_quotient x k n ≡ true
means_exact nan k n h = absurd h
means_exact (inf s) k n h = absurd h
means_exact (fin s m e) k n (sign, same) = simp (sign, eq-eqb (m * up e * n) (k * down e) same)

-- what is found is exact
found : (n end : ℕ) (x : Float) (k : ℕ) → exact_below n end x ≡ Some k → (k < end) × IsExactly x k n
found n zero x k e = absurd (false≢true (ap is_there e))
found n (suc j) x k e = go (is_quotient x j n) refl e (found n j x k)
  where
    go : (t : Bool) → is_quotient x j n ≡ t → cond t (Some j) (exact_below n j x) ≡ Some k
        → (exact_below n j x ≡ Some k → (k < j) × IsExactly x k n) → (k < suc j) × IsExactly x k n
    go true is e below =
        let same : j ≡ k = cc in
        (omega arith, subst (λ (i : ℕ). IsExactly x i n) same (exact_means x j n is))
    go false is e below = let (less, exact) = below e in (omega arith, exact)

-- and where nothing is found, nothing is
not_found : (n end : ℕ) (x : Float) → exact_below n end x ≡ None → (k : ℕ) → k < end → IsExactly x k n → ⊥
not_found n zero x e k less exact = not-suc-le-zero less
not_found n (suc j) x e k less exact = go (is_quotient x j n) refl e (not_found n j x)
  where
    go : (t : Bool) → is_quotient x j n ≡ t → cond t (Some j) (exact_below n j x) ≡ None
        → (exact_below n j x ≡ None → (i : ℕ) → i < j → IsExactly x i n → ⊥) → ⊥
    go true is e below = false≢true (sym (ap is_there e))
    go false is e below =
        ⊎_elim (λ (same : k ≡ j). false≢true (sym is ∙ means_exact x j n (subst (λ (i : ℕ). IsExactly x i n) same exact)))
        (λ (l : k < j). below e k l exact)
        (eq-or-lt_of_le (omega arith))

-- so the search finds what is computed
computed : (n top : ℕ) (x : Float) → exact_below n (suc top) x ≡ whole_of n top x
computed n top x = go (exact_below n (suc top) x) refl
  where
    go : (o : Option ℕ) → exact_below n (suc top) x ≡ o → o ≡ whole_of n top x
    go None e = sym (no_whole n top x (λ k le. not_found n (suc top) x e k (omega arith)))
    go (Some k) e = let (less, exact) = found n (suc top) x k e in sym (complete n top x k (omega arith) exact)

-- what the book reads of a dial is what it is decoded to
pub record ReadAs (d : Dial) (to : Decoded) : Type 0 where
  pub stop : amount_is_stop d ≡ not (eqb (refusal_of to) 17)
  pub intensity : value_is_intensity d ≡ not (eqb (refusal_of to) 18)
  pub setting : setting_read d ≡ setting_of to

pub reads : (d : Dial) → ReadAs d (decoded d)
unfolding stop held_intensity
reads D.Off = record { stop = refl; intensity = refl; setting = refl }
reads (D.Mix x) = go (whole_of 256 256 x) (computed 256 256 x)
  where
    go : (o : Option ℕ) → stop x ≡ o → ReadAs (D.Mix x) (as_mix o)
    go None e = record { stop = simp e; intensity = refl; setting = simp e }
    go (Some k) e = record { stop = simp e; intensity = refl; setting = simp e }
reads (D.Hold x) = go (whole_of 1 765 x) (computed 1 765 x)
  where
    go : (o : Option ℕ) → held_intensity x ≡ o → ReadAs (D.Hold x) (as_hold o)
    go None e = record { stop = refl; intensity = simp e; setting = simp e }
    go (Some v) e = record { stop = refl; intensity = simp e; setting = simp e }
