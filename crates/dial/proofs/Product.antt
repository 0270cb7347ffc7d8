-- 256 times a 32-bit float is exact in 64 bits.
use Rattle.std.proofs.Common.{◌≡◌, ℕ, zero, suc, ◌+◌, ◌-◌, ◌*◌, ◌%◌, ◌^◌, ◌<◌, ◌≤◌, Bool, true, false, ◌&&◌, T, eqb, ltb, leb, ◌↔◌, ℤ, pos, negsuc, sym, refl, ap, ◌∙◌, subst, le_trans, le_of_eq, lt_of_le_of_lt, le_of_lt, mul-le-mul_right, mul_assoc, mul-pos, one-mul, zero-mul, mul-one, mul_right_comm, not-le_of_lt, le_of_mul-le-mul_right, arith, lit<, lit≤, eqb→eq, ltb→lt, leb→le, pow_pos, pow-add}
use lib.Pow.{pow-lt}
use lib.Ieee.{Float, nan, inf, fin, binary32, binary64, up, down, unlike, round, mul, fits, of_bits}
use lib.Ieee.Exact.{HasValue, round_exact}
use lib.Ieee.Fits.{up_pos, down_pos, and_l, and_r}
use Rattle.tables.proofs.Cases.{either}
use Rattle.dial.specs.Dial.{IsExactly, whole_of}
use Rattle.dial.proofs.Exact.{agree}
use Rattle.dial.proofs.Machine.{same_value}

-- m × 2 ^ e has the digits and the range of a 32-bit float
record Small (m : ℕ) (e : ℤ) : Type 0 where
  digits : m < 2 ^ 24
  fine : down e ≤ 2 ^ 149
  below : m * up e < 2 ^ 128 * down e

-- as every one that fits has
small : (s : Bool) (m : ℕ) (e : ℤ) → T (fits binary32 (fin s m e)) → Small m e
unfolding fits
small s zero e fit =
    let one : up e * down e ≡ 1 = eqb→eq (up e * down e) 1 fit in
    let least : down e ≤ up e * down e = le_trans (le_of_eq (sym (one-mul (down e)))) (mul-le-mul_right (down e) (up_pos e)) in
    record {
      digits = lit< tt;
      fine = le_trans least (subst (λ (x : ℕ). x ≤ 2 ^ 149) (sym one) (lit≤ tt));
      below = subst (λ (x : ℕ). x < 2 ^ 128 * down e) (sym (zero-mul (up e))) (mul-pos (pow_pos 128) (down_pos e));
    }
small s (suc m) e fit =
    let odd = eqb (suc m % 2) 1 in
    let short = ltb (suc m) (2 ^ 24) in
    let fine = leb (down e) (2 ^ 149) in
    let below = ltb (suc m * up e) (2 ^ 128 * down e) in
    let first = and_l (odd && short && fine) below fit in
    record {
      digits = ltb→lt (suc m) (2 ^ 24) (and_r odd short (and_l (odd && short) fine first));
      fine = leb→le (down e) (2 ^ 149) (and_r (odd && short) fine first);
      below = ltb→lt (suc m * up e) (2 ^ 128 * down e) (and_r (odd && short && fine) below fit);
    }

-- counted in units of the least 64-bit float, 2 ^ -1074, the exponent e is this
abbrev exponent : ℤ → ℕ
exponent (pos k) = 1074 + k
exponent (negsuc k) = 1074 - suc k

-- so that 2 ^ e is a whole number of them
in_units : (e : ℤ) → down e ≤ 2 ^ 149 → 2 ^ 1074 * up e ≡ 2 ^ exponent e * down e
in_units (pos k) fine = sym (pow-add 2 1074 k) ∙ sym (mul-one (2 ^ (1074 + k)))
in_units (negsuc k) fine =
    let few : suc k ≤ 149 = either (suc k) 149 (λ l. l) (λ l. absurd (not-le_of_lt (pow-lt l) fine)) in
    let split : 1074 ≡ 1074 - suc k + suc k = omega arith in
    mul-one (2 ^ 1074) ∙ ap (λ (x : ℕ). 2 ^ x) split ∙ pow-add 2 (1074 - suc k) (suc k)

-- the machine's 256 times x
abbrev pub times256 : Float → Float
times256 x = mul binary64 x (fin false 1 (pos 8))

-- the second factor goes last
rearranged : (a b c d : ℕ) → a * b * c * d ≡ a * c * d * b
rearranged a b c d = ap (λ (x : ℕ). x * d) (mul_right_comm a b c) ∙ mul_right_comm (a * c) b d

-- the product is not rounded
product : (s : Bool) (m : ℕ) (e : ℤ) → Small m e → HasValue (times256 (fin s m e)) s (m * up e * 256) (down e)
unfolding mul
product s m e h =
    let num = m * up e * 256 in
    let den = down e in
    let power = 2 ^ exponent e in
    let units : num * 2 ^ 1074 ≡ m * 256 * power * den =
    rearranged m (up e) 256 (2 ^ 1074)
    ∙ mul_assoc (m * 256) (2 ^ 1074) (up e)
    ∙ ap (λ (x : ℕ). m * 256 * x) (in_units e h.fine)
    ∙ sym (mul_assoc (m * 256) power den) in
    let most : num * 2 ^ 1074 ≤ 2 ^ 128 * 256 * 2 ^ 1074 * den =
    le_trans
    (mul-le-mul_right (2 ^ 1074) (mul-le-mul_right 256 (le_of_lt h.below)))
    (le_of_eq (rearranged (2 ^ 128) den 256 (2 ^ 1074))) in
    let range : m * 256 * power ≤ 2 ^ 128 * 256 * 2 ^ 1074 =
    le_of_mul-le-mul_right (le_trans (le_of_eq (sym units)) most) (down_pos e) in
    let digits : m * 256 < 2 ^ 53 = let few = h.digits in omega arith in
    subst (λ (t : Bool). HasValue (round binary64 t num (den * 1)) s num den) (sym (plus_sign s))
    (subst (λ (d : ℕ). HasValue (round binary64 s num d) s num den) (sym (mul-one den))
    (round_exact binary64 s num den (m * 256) (exponent e) (down_pos e) digits (lt_of_le_of_lt range (lit< tt)) units))
  where
    plus_sign : (s : Bool) → unlike s false ≡ s
    plus_sign true = refl
    plus_sign false = refl

-- 256 times a 32-bit float is k exactly if the float is k / 256
pub scaled : (x : Float) → T (fits binary32 x) → (k : ℕ) → IsExactly (times256 x) k 1 ↔ IsExactly x k 256
unfolding mul
scaled nan fit k = (λ exact. exact, λ exact. exact)
scaled (inf s) fit k = (λ exact. exact, λ exact. exact)
scaled (fin s m e) fit k =
    same_value (times256 (fin s m e)) s (m * up e * 256) (down e) k (down_pos e) (product s m e (small s m e fit))

-- so the whole number of the product is the stop (256 stands here by its bits as a 64-bit float, as it does where `stop` is proved)
pub stop_of_product : (x : Float) → fits binary32 x ≡ true
    → whole_of 1 256 (mul binary64 x (of_bits binary64 4643211215818981376)) ≡ whole_of 256 256 x
unfolding of_bits
stop_of_product x fit = agree 256 256 x (times256 x) (scaled x (subst T (sym fit) tt))
