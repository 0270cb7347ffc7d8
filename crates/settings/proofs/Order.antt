-- The order of two pixels that are written under one setting.
use mathlib.Core.Path.{◌≡◌}
use mathlib.Core.Bool.{Bool, true, false, ◌||◌, cond}
use Prim.Native.Nat.{ℕ, ◌+◌, ◌-◌, ◌*◌, ◌<◌, ◌≤◌}
use native.Mathlib.Nat.{mul-le-mul_right}
use native.Mathlib.Omega.{arith}
use borrow.Author.Tests.{eq-eqb, ne_eqb}
use lib.Dec.{eqb}
use Rattle.rounding.specs.Fraction.{whole, ◌over◌, AtMostApart}
use Rattle.tables.proofs.Cases.{either}
use Rattle.pixel.specs.Accuracy.{mission}
use Rattle.settings.specs.Accuracy.{mix_tolerance, SettingsKeepOrder}
use Rattle.settings.specs.declared.Setting.TheVariants.{Off, Mix, Hold}

-- the intensity that is due under hold: black's and white's own, and of every other pixel the held value
record Due (v s x : ℕ) : Type 0 where
  black : s ≡ 0 → x ≡ 0
  white : s ≡ 765 → x ≡ 765
  other : 0 < s → s < 765 → x ≡ v

due : (v s : ℕ) → Due v s (cond (eqb s 0 || eqb s 765) s v)
due v s = record {
  black = λ e. simp (eq-eqb s 0 e) e;
  white = λ e. simp (ne_eqb s 0 (λ z. omega arith), eq-eqb s 765 e) e;
  other = λ a b. simp (ne_eqb s 0 (λ z. omega arith), ne_eqb s 765 (λ z. omega arith));
}

-- it does not fall where the intensity does not
due_rises : (v s s' x x' : ℕ) → v ≤ 765 → s ≤ s' → s' ≤ 765 → Due v s x → Due v s' x' → x ≤ x'
due_rises v s s' x x' le h top d d' =
    either s 0
    (λ l. omega (arith, d.black (omega arith)))
    (λ light.
    either 765 s'
    (λ l. either 765 s (λ r. omega (arith, d.white (omega arith), d'.white (omega arith))) (λ r. omega (arith, d.other light r, d'.white (omega arith))))
    (λ dark. omega (arith, d.other light (omega arith), d'.other (omega arith) dark)))

-- twice the tolerance on the sum is at most what one may be below the other
mix_order : (k s s' f f' x x' : ℕ) → s ≤ s' → f ≤ f' → (t : Bool)
    → AtMostApart (cond t mission mix_tolerance).sum (whole x) ((s * (256 - k) + f * k) over 256)
    → AtMostApart (cond t mission mix_tolerance).sum (whole x') ((s' * (256 - k) + f' * k) over 256)
    → x ≤ x' + (cond t mission mix_tolerance).below
mix_order k s s' f f' x x' h h' true a a' = omega (arith, a, a', mul-le-mul_right (256 - k) h, mul-le-mul_right k h')
mix_order k s s' f f' x x' h h' false a a' = omega (arith, a, a', mul-le-mul_right (256 - k) h, mul-le-mul_right k h')

pub settings_keep_order : SettingsKeepOrder
settings_keep_order Off m n p p' q q' f f' ok h top h' a a' = omega (arith, a.rules.sum, a'.rules.sum)
settings_keep_order (Mix k) m n p p' q q' f f' ok h top h' a a' = mix_order k _ _ _ _ _ _ h h' (eqb k 256) a.rules.sum a'.rules.sum
settings_keep_order (Hold v) m n p p' q q' f f' ok h top h' a a' = omega (arith, a.rules.sum, a'.rules.sum, due_rises v _ _ _ _ ok h top (due v _) (due v _))
