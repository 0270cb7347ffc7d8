-- What the machine's comparisons and its cut say of a float that is a whole number, and of one that passed the tests of a range.
use Rattle.std.proofs.Common.{◌≡◌, ℕ, ◌+◌, ◌-◌, ◌*◌, ◌/◌, ◌^◌, ◌<◌, ◌≤◌, min, Bool, true, false, ◌&&◌, ◌||◌, T, eqb, ltb, ◌↔◌, ℤ, pos, sym, refl, ap, ◌∙◌, subst, true≢false, zero-le, le_trans, le_of_eq, lt_of_le_of_lt, le_of_lt, mul-le-mul_right, mul_comm, mul-lt-mul_of_pos_right, zero-add, zero-mul, mul-one, mul_right_comm, le_of_mul-le-mul_right, mul-div_cancel, arith, lt→ltb, pow_pos, ltb-true, eq-eqb, eqb-true}
use mathlib.Core.Bool.{beq, false≢true}
use native.Mathlib.Nat.{eq_of_mul-eq-mul_right, div-le_of_le-mul}
use lib.Ieee.{Float, nan, inf, fin, up, down, to_unsigned, lt, le, eq}
use lib.Ieee.Bits.{is_true}
use lib.Ieee.Exact.{HasValue}
use lib.Ieee.Fits.{down_pos}
use lib.Ieee.Order.{le_of_values}
use Rattle.std.proofs.lemmas.Bool.{and_parts}
use Rattle.dial.specs.Dial.{may_have_sign, IsExactly}

-- a float that is a / c is k exactly if a / c is
pub same_value : (y : Float) (s : Bool) (a c k : ℕ) → 0 < c → HasValue y s a c
    → IsExactly y k 1 ↔ (may_have_sign k s ≡ true) × (a ≡ k * c)
same_value nan s a c k positive at = absurd at
same_value (inf t) s a c k positive at = absurd at
same_value (fin t m e) s a c k positive (same, cross) = (
  λ (sign, value). (
    subst (λ (u : Bool). may_have_sign k u ≡ true) same sign,
    eq_of_mul-eq-mul_right (down e) (down_pos e) a (k * c)
        (sym cross ∙ ap (λ (x : ℕ). x * c) (sym (mul-one (m * up e)) ∙ value) ∙ mul_right_comm k (down e) c),
  ),
  λ (sign, value). (
    subst (λ (u : Bool). may_have_sign k u ≡ true) (sym same) sign,
    mul-one (m * up e)
        ∙ eq_of_mul-eq-mul_right c positive (m * up e) (k * down e) (cross ∙ ap (λ (x : ℕ). x * down e) value ∙ mul_right_comm k c (down e)),
  ),
)

-- what holds of every plus m × 2 ^ e that is k holds of the float k
of_plus : (P : Float → Type 0) (x : Float) (k : ℕ) → HasValue x false k 1
    → ((m : ℕ) (e : ℤ) → m * up e ≡ k * down e → P (fin false m e)) → P x
of_plus P nan k at each = absurd at
of_plus P (inf s) k at each = absurd at
of_plus P (fin true m e) k at each = absurd (true≢false at.0)
of_plus P (fin false m e) k at each = each m e (sym (mul-one (m * up e)) ∙ at.1)

-- y passes every test that k passes, and is cut to k
pub record Known (y : Float) (k : ℕ) : Type 0 where
  pub above : le (fin false 0 (pos 0)) y ≡ true
  pub below : (x : Float) (top : ℕ) → HasValue x false top 1 → k ≤ top → le y x ≡ true
  pub cut : k < 2 ^ 64 → to_unsigned 64 y ≡ k
  pub back : (x : Float) → HasValue x false k 1 → eq x y ≡ true

-- this holds of a plus m × 2 ^ e that is k
known_plus : (m : ℕ) (e : ℤ) (k : ℕ) → m * up e * 1 ≡ k * down e → Known (fin false m e) k
unfolding to_unsigned eq
known_plus m e k value = record {
  above = is_true (le zero y) (le_of_values zero y 0 1 k 1 (pow_pos 0) (pow_pos 0) (refl, refl) (refl, value) zero-le);
  below = λ x top at range.
      is_true (le y x) (le_of_values y x k 1 top 1 (pow_pos 0) (pow_pos 0) (refl, value) at (mul-le-mul_right 1 range));
  cut = λ fits. uncapped (m * up e / down e) (ap (λ (a : ℕ). a / down e) plain ∙ mul-div_cancel k (down_pos e)) fits;
  back = λ x at. of_plus (λ (x : Float). eq x y ≡ true) x k at (λ n d same. simp (across (n * up d) (down d) same));
}
  where
    zero : Float
    zero = fin false 0 (pos 0)

    y : Float
    y = fin false m e

    plain : m * up e ≡ k * down e
    plain = sym (mul-one (m * up e)) ∙ value

    uncapped : (a : ℕ) → a ≡ k → k < 2 ^ 64 → min a (2 ^ 64 - 1) ≡ k
    uncapped a is fits = omega arith

    across : (a c : ℕ) → a ≡ k * c → eqb (a * down e) (m * up e * c) ≡ true
    across a c same =
        eq-eqb (a * down e) (m * up e * c)
        (ap (λ (x : ℕ). x * down e) same ∙ mul_right_comm k c (down e) ∙ ap (λ (x : ℕ). x * c) (sym plain))

-- and of minus zero
known_minus : (m : ℕ) (e : ℤ) → m * up e * 1 ≡ 0 * down e → Known (fin true m e) 0
unfolding to_unsigned le lt eq
known_minus m e value = record {
  above = simp (mul-one, zero-mul, none);
  below = λ x top at range. as_plus x top at ∙ (known_plus m e 0 value).below x top at range;
  cut = λ fits. refl;
  back = λ x at. of_plus (λ (x : Float). eq x (fin true m e) ≡ true) x 0 at (λ n d same. simp (none, zero-mul, same));
}
  where
    none : m * up e ≡ 0
    none = sym (mul-one (m * up e)) ∙ value ∙ zero-mul (down e)

    as_plus : (x : Float) (top : ℕ) → HasValue x false top 1 → le (fin true m e) x ≡ le (fin false m e) x
    as_plus x top at =
        of_plus (λ (x : Float). le (fin true m e) x ≡ le (fin false m e) x) x top at (λ n d same. simp (none, zero-mul, zero-add))

-- and so of every float that is k
pub known : (y : Float) (k : ℕ) → IsExactly y k 1 → Known y k
known nan k exact = absurd exact
known (inf s) k exact = absurd exact
known (fin false m e) k (sign, value) = known_plus m e k value
known (fin true m e) k (sign, value) =
    let is_zero : k ≡ 0 = eqb-true k 0 sign in
    subst (Known (fin true m e)) (sym is_zero) (known_minus m e (subst (λ (j : ℕ). m * up e * 1 ≡ j * down e) is_zero value))

-- a product with a power of two is 0 only where the other factor is
vanish : (a : ℕ) (e : ℤ) → a * down e ≡ 0 → a ≡ 0
vanish a e zero = eq_of_mul-eq-mul_right (down e) (down_pos e) a 0 (zero ∙ sym (zero-mul (down e)))

-- what equals the float k is k
pub equal : (y x : Float) (k : ℕ) → HasValue x false k 1 → eq x y ≡ true → IsExactly y k 1
unfolding eq
equal y x k at = of_plus (λ (x : Float). eq x y ≡ true → IsExactly y k 1) x k at (go y)
  where
    signed : (s : Bool) (a : ℕ) → (a ≡ 0 → k ≡ 0) → (beq false s || eqb a 0) ≡ true → may_have_sign k s ≡ true
    signed true a zero sign = eq-eqb k 0 (zero (eqb-true a 0 sign))
    signed false a zero sign = refl

    go : (y : Float) (n : ℕ) (d : ℤ) → n * up d ≡ k * down d → eq (fin false n d) y ≡ true → IsExactly y k 1
    go nan n d same equals = absurd (false≢true equals)
    go (inf s) n d same equals = absurd (false≢true equals)
    go (fin s m e) n d same equals =
        let a = n * up d * down e in
        let b = m * up e * down d in
        let (value, sign) = and_parts (eqb a b) (beq false s || eqb a 0) equals in
        (same_value (fin s m e) s (n * up d) (down d) k (down_pos d) (refl, sym (eqb-true a b value))).1
        (signed s a (λ zero. vanish k d (sym same ∙ vanish (n * up d) e zero)) sign, same)

-- y can be cut, and its cut is at most top
pub record Within (y : Float) (top : ℕ) : Type 0 where
  pub above_minus_one : T (lt (fin true 1 (pos 0)) y)
  pub below_the_end : T (lt y (fin false 1 (pos 64)))
  pub few : to_unsigned 64 y ≤ top

-- at most, as the machine tests it
at_most : (a b : ℕ) → (ltb a b || (eqb a b && true)) ≡ true → a ≤ b
at_most a b = go (ltb a b) (eqb a b) (ltb-true a b) (eqb-true a b)
  where
    go : (less same : Bool) → (less ≡ true → a < b) → (same ≡ true → a ≡ b) → (less || (same && true)) ≡ true → a ≤ b
    go true same p q e = le_of_lt (p refl)
    go false true p q e = le_of_eq (q refl)
    go false false p q e = absurd (false≢true e)

-- this holds of a plus m × 2 ^ e that is at most top
within_plus : (m : ℕ) (e : ℤ) (top : ℕ) → top < 2 ^ 64 → m * up e ≤ top * down e → Within (fin false m e) top
unfolding lt to_unsigned
within_plus m e top fits range =
    let a = m * up e in
    let c = down e in
    let positive : 0 < c = down_pos e in
    let end : a < 2 ^ 64 * c = lt_of_le_of_lt range (mul-lt-mul_of_pos_right fits positive) in
    record {
      above_minus_one = lt→ltb 0 (1 * 1 * c + a * 1) (omega arith);
      below_the_end = lt→ltb (a * 1) (1 * 2 ^ 64 * c) (omega arith);
      few = capped (a / c) (div-le_of_le-mul c (le_trans range (le_of_eq (mul_comm top c))));
    }
  where
    capped : (q : ℕ) → q ≤ top → min q (2 ^ 64 - 1) ≤ top
    capped q less = omega arith

-- and of minus zero
within_minus : (m : ℕ) (e : ℤ) (top : ℕ) → 0 * 1 * down e ≡ m * up e * 1 → Within (fin true m e) top
unfolding lt to_unsigned
within_minus m e top zero =
    let positive : 0 < down e = down_pos e in
    record {
      above_minus_one = lt→ltb (m * up e * 1) (1 * 1 * down e) (omega arith);
      below_the_end = lt→ltb 0 (m * up e * 1 + 1 * 2 ^ 64 * down e) (omega arith);
      few = zero-le;
    }

-- and so of every float that passed the machine's tests of a range
pub within : (y x : Float) (top : ℕ) → HasValue x false top 1 → top < 2 ^ 64
    → le (fin false 0 (pos 0)) y ≡ true → le y x ≡ true → Within y top
unfolding le lt eq
within y x top at fits low = of_plus (λ (x : Float). le y x ≡ true → Within y top) x top at (go y low)
  where
    go : (y : Float) → le (fin false 0 (pos 0)) y ≡ true → (n : ℕ) (d : ℤ) → n * up d ≡ top * down d
        → le y (fin false n d) ≡ true → Within y top
    go nan low n d same high = absurd (false≢true low)
    go (inf true) low n d same high = absurd (false≢true low)
    go (inf false) low n d same high = absurd (false≢true high)
    go (fin false m e) low n d same high =
        let scaled : n * up d * down e ≡ top * down e * down d =
        ap (λ (a : ℕ). a * down e) same ∙ mul_right_comm top (down d) (down e) in
        within_plus m e top fits
        (le_of_mul-le-mul_right (le_trans (at_most (m * up e * down d) (n * up d * down e) high) (le_of_eq scaled)) (down_pos d))
    go (fin true m e) low n d same high =
        let a = 0 * 1 * down e in
        let b = m * up e * 1 in
        within_minus m e top (eqb-true a b (and_parts (eqb a b) (eqb a 0) low).0)
