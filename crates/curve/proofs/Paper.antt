-- The entries are those of source 004, equations 5 and 14, by the house share.
use mathlib.Core.Path.{◌≡◌, sym, ap, ap₂, subst, ◌∙◌}
use Prim.Native.Nat.{ℕ, ◌+◌, ◌-◌, ◌*◌, ◌≤◌, ◌<◌}
use native.Mathlib.Nat.{mul_assoc, mul_comm, mul_left_comm, one-mul, mul-sub, mul-add, add-mul, mul-pos, mul-le-mul_right, mul-lt-mul_of_pos_right, le_of_mul-le-mul_left, lt_of_mul-lt-mul_left, le_of_lt, le_trans}
use native.Mathlib.Omega.{arith}
use Rattle.rounding.specs.Near.{near}
use Rattle.rounding.specs.Fraction.{Fraction, whole, ◌over◌, ◌⊗◌, ◌≼◌, ◌≺◌, nearest}
use Rattle.targets.specs.Cube.{G, cubed}
use Rattle.targets.specs.Paper.{area}
use Rattle.targets.proofs.Laws.{targets_are_right}
use Rattle.curve.specs.Curve.{share_count, full_count, previous, cube_entry, equalised_entry, by_choice, entry}
use Rattle.curve.specs.Nearest.{distance}
use Rattle.curve.specs.Paper.{mean_count, apart, equation5, equation14, EntriesFollowThePaper}
use Rattle.curve.specs.declared.Choice.{Choice}
use Rattle.curve.specs.declared.Choice.TheVariants.{Cube, Equalised}
use Rattle.curve.proofs.Curve.{cube_nearest, ends_inner}

-- what c · n = v · d gives when n and d are multiplied by e
by_factor : (c n d v e : ℕ) → c * n ≡ v * d → c * (n * e) ≡ v * (d * e)
by_factor c n d v e same = sym (mul_assoc c n e) ∙ ap (λ (m : ℕ). m * e) same ∙ mul_assoc v d e

-- c times the fraction x is the whole number v
record Times (c : ℕ) (x : Fraction) (v : ℕ) : Type 0 where
  positive : 0 < x.den
  same : c * x.num ≡ v * x.den

module _ {c : ℕ} {x y : Fraction} {v w : ℕ} (p : Times c x v) (q : Times c y w) where
  -- c times x, over both denominators
  left : c * (x.num * y.den) ≡ v * (x.den * y.den)
  left = by_factor c x.num x.den v y.den p.same

  -- c times y, over both denominators
  right : c * (y.num * x.den) ≡ w * (x.den * y.den)
  right = by_factor c y.num y.den w x.den q.same ∙ ap (λ (m : ℕ). w * m) (mul_comm y.den x.den)

  -- the fractions are ordered as those whole numbers are
  order_kept : 0 < c → v ≤ w → x.num * y.den ≤ y.num * x.den
  order_kept some h =
      le_of_mul-le-mul_left {k = c} (omega (arith, left, right, mul-le-mul_right (x.den * y.den) h)) some

  -- and strictly, if those are
  strictly_kept : v < w → x.num * y.den < y.num * x.den
  strictly_kept h =
      lt_of_mul-lt-mul_left c
      (omega (arith, left, right, mul-lt-mul_of_pos_right h (mul-pos p.positive q.positive)))

-- a difference of two numbers over one denominator
difference_over : (c p q d v w : ℕ) → c * p ≡ v * d → c * q ≡ w * d → c * (p - q) ≡ (v - w) * d
difference_over c p q d v w ep eq =
    mul-sub c p q ∙ ap₂ ◌-◌ (ep ∙ mul_comm v d) (eq ∙ mul_comm w d) ∙ sym (mul-sub d v w) ∙ mul_comm d (v - w)

-- their distance over it
distance_over : (c p q d v w : ℕ) → c * p ≡ v * d → c * q ≡ w * d → c * ((p - q) * d + (q - p) * d) ≡ distance v w * (d * d)
distance_over c p q d v w ep eq =
    mul-add c ((p - q) * d) ((q - p) * d)
    ∙ ap₂ ◌+◌ (by_factor c (p - q) d (v - w) d (difference_over c p q d v w ep eq))
    (by_factor c (q - p) d (w - v) d (difference_over c q p d w v eq ep))
    ∙ sym (add-mul (v - w) (w - v) (d * d))

-- c times the distance of two fractions is the distance of those numbers
apart_times : {c : ℕ} {x y : Fraction} {v w : ℕ} → Times c x v → Times c y w → Times c (apart x y) (distance v w)
apart_times {c} {x} {y} {v} {w} p q =
    let d = x.den * y.den in
    let swap : y.den * x.den ≡ d = mul_comm y.den x.den in
    record {
      positive = mul-pos (mul-pos p.positive q.positive) (mul-pos q.positive p.positive);
      same = rw swap (distance_over c (x.num * y.den) (y.num * x.den) d v w (left p q) (right p q));
    }

-- c times n times a fraction
n_times : {c : ℕ} {x : Fraction} {v : ℕ} (n : ℕ) → Times c x v → Times c (whole n ⊗ x) (n * v)
n_times {c} {x} {v} n p =
    record {
      positive = omega (arith, p.positive);
      same =
          mul_left_comm c n x.num
          ∙ ap (λ (m : ℕ). n * m) p.same
          ∙ sym (mul_assoc n v x.den)
          ∙ ap (λ (m : ℕ). n * v * m) (sym (one-mul x.den));
    }

-- twice c times a fraction
twice : {c : ℕ} {x : Fraction} {v : ℕ} → Times c x v → Times (2 * c) x (2 * v)
twice {c} {x} {v} p =
    record {
      positive = p.positive;
      same = mul_assoc 2 c x.num ∙ ap (λ (m : ℕ). 2 * m) p.same ∙ sym (mul_assoc 2 v x.den);
    }

-- equation 11 at the intensity k / 255, times 255³
area_times : (k : ℕ) → k ≤ 765 → Times (cubed 255) (area (k over 255)) (G k)
area_times k h =
    let (positive, _, same) = targets_are_right.equation11 k h in
    record { positive = omega arith; same = omega arith }

-- and at the intensity 3, times h halves
top_times : (h : ℕ) → Times (2 * cubed 255) (area (whole 3) ⊗ (h over 2)) (G 765 * h)
unfolding area
top_times h = record { positive = omega arith; same = rw targets_are_right.at765 (omega arith) }

-- equation 14, times 2 × 255³, is the distance of document 01, with 2 × N in place of N
equation14_times : (n h k : ℕ) → k ≤ 765 → Times (2 * cubed 255) (equation14 n (h over 2) k) (distance (2 * n * G k) (G 765 * h))
equation14_times n h k le =
    subst (λ (m : ℕ). Times (2 * cubed 255) (equation14 n (h over 2) k) (distance m (G 765 * h)))
    (mul_left_comm n 2 (G k) ∙ sym (mul_assoc 2 n (G k)))
    (apart_times (n_times n (twice (area_times k le))) (top_times h))

-- between the ends the entry for s is made from 2 × N and H(s) + H(s − 1)
entry_is : (choice : Choice) (N : ℕ) (H : ℕ → ℕ) (s : ℕ) → 0 < s → s < 765
    → by_choice choice (2 * N) (H s + previous H s) ≡ entry choice N H s
unfolding entry share_count full_count
entry_is choice N H s h l = sym (ends_inner (λ s. by_choice choice (2 * N) (H s + previous H s)) s h l)

-- equation 5 is document 01's fraction, of the house share
equalised_is : (n h : ℕ) → equalised_entry (2 * n) h ≡ nearest (equation5 n (h over 2))
unfolding equalised_entry
equalised_is n h = ap₂ near (omega arith) (omega arith)

-- the cube entry's distance is least
cube_least : (n h j : ℕ) → j ≤ 765 → equation14 n (h over 2) (cube_entry (2 * n) h) ≼ equation14 n (h over 2) j
cube_least n h j l =
    order_kept (equation14_times n h (cube_entry (2 * n) h) (cube_nearest (2 * n) h).within) (equation14_times n h j l)
    (omega arith) ((cube_nearest (2 * n) h).least j l)

-- and that of every smaller k is larger
cube_first : (n h j : ℕ) → j < cube_entry (2 * n) h → equation14 n (h over 2) (cube_entry (2 * n) h) ≺ equation14 n (h over 2) j
cube_first n h j l =
    strictly_kept (equation14_times n h (cube_entry (2 * n) h) (cube_nearest (2 * n) h).within)
    (equation14_times n h j (le_trans (le_of_lt l) (cube_nearest (2 * n) h).within)) ((cube_nearest (2 * n) h).first j l)

pub entries_follow_the_paper : EntriesFollowThePaper
entries_follow_the_paper =
    record {
      share = λ N H s some. omega arith;
      first_share = λ N H some. omega arith;
      equalised = λ N H s some h l. sym (entry_is Equalised N H s h l) ∙ equalised_is N (H s + previous H s);
      within = λ N H s h l.
          subst (λ (k : ℕ). k ≤ 765) (entry_is Cube N H s h l) (cube_nearest (2 * N) (H s + previous H s)).within;
      least = λ N H s h l.
          subst (λ (k : ℕ). (j : ℕ) → j ≤ 765 → equation14 N (mean_count H s) k ≼ equation14 N (mean_count H s) j)
          (entry_is Cube N H s h l) (cube_least N (H s + previous H s));
      first = λ N H s h l.
          subst (λ (k : ℕ). (j : ℕ) → j < k → equation14 N (mean_count H s) k ≺ equation14 N (mean_count H s) j)
          (entry_is Cube N H s h l) (cube_first N (H s + previous H s));
    }
