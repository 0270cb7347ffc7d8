-- A float's whole number is what it is exactly, and decoding is exact.
use Rattle.std.proofs.Common.{◌≡◌, ℕ, ◌*◌, ◌/◌, ◌≤◌, Bool, true, false, cond, ◌&&◌, eqb, leb, ◌↔◌, refl, ap, ◌∙◌, subst, mul-div_cancel, eq-eqb, eqb-true, le-leb, leb-true, Option, None, Some, Ok}
use mathlib.Core.Bool.{false≢true}
use lib.Ieee.{Float, nan, inf, fin, up, down}
use lib.Ieee.Fits.{down_pos}
use Rattle.std.proofs.lemmas.Bool.{and_parts}
use Rattle.refusal.specs.declared.Refusal.{Refusal}
use Rattle.refusal.specs.declared.Refusal.TheVariants.{NotAStop, NotAnIntensity}
use Rattle.settings.specs.declared.Setting.{Setting}
use Rattle.settings.specs.declared.Setting.TheVariants as S
use Rattle.dial.specs.Dial.{may_have_sign, IsExactly, whole_if, whole_of, setting_by, as_mix, as_hold, decoded, refusal_of, full_balance, DecodingIsExact}

-- a whole number is found only where the test holds
passed : (t : Bool) (j k : ℕ) → cond t (Some j) None ≡ Some k → (t ≡ true) × (j ≡ k)
passed true j k e = (refl, cc)
passed false j k e = (cc, cc)

-- the whole number of n times a float is at most top, and the float is that over n
pub sound : (n top : ℕ) (x : Float) (k : ℕ) → whole_of n top x ≡ Some k → (k ≤ top) × IsExactly x k n
unfolding whole_of
sound n top nan k found = absurd (false≢true cc)
sound n top (inf s) k found = absurd (false≢true cc)
sound n top (fin s m e) k found =
    let num = m * up e * n in
    let j = num / down e in
    let (tests, same) = passed (may_have_sign j s && (eqb num (j * down e) && leb j top)) j k found in
    let (sign, others) = and_parts (may_have_sign j s) (eqb num (j * down e) && leb j top) tests in
    let (value, range) = and_parts (eqb num (j * down e)) (leb j top) others in
    subst (λ (i : ℕ). (i ≤ top) × IsExactly (fin s m e) i n) same (leb-true j top range, (sign, eqb-true num (j * down e) value))

-- and where a float is k / n, with k at most top, its whole number is k
pub complete : (n top : ℕ) (x : Float) (k : ℕ) → k ≤ top → IsExactly x k n → whole_of n top x ≡ Some k
unfolding whole_of
complete n top nan k range exact = absurd exact
complete n top (inf s) k range exact = absurd exact
complete n top (fin s m e) k range (sign, value) =
    let num = m * up e * n in
    let only : num / down e ≡ k = ap (λ (a : ℕ). a / down e) value ∙ mul-div_cancel k (down_pos e) in
    ap (whole_if s num (down e) top) only ∙ simp (sign, eq-eqb num (k * down e) value, le-leb k top range)

-- and where it is no such k / n, it has none
pub none : (n top : ℕ) (x : Float) → ((k : ℕ) → k ≤ top → IsExactly x k n → ⊥) → whole_of n top x ≡ None
none n top x never = go (whole_of n top x) refl
  where
    go : (w : Option ℕ) → whole_of n top x ≡ w → w ≡ None
    go (Some k) found = let (range, exact) = sound n top x k found in absurd (never k range exact)
    go None found = refl

-- where y is k exactly if x is k / n, the whole number of y is that of n times x
pub agree : (n top : ℕ) (x y : Float) → ((k : ℕ) → IsExactly y k 1 ↔ IsExactly x k n) → whole_of 1 top y ≡ whole_of n top x
agree n top x y same = go (whole_of n top x) refl
  where
    go : (w : Option ℕ) → whole_of n top x ≡ w → whole_of 1 top y ≡ w
    go (Some k) found = let (range, exact) = sound n top x k found in complete 1 top y k range ((same k).1 exact)
    go None found = none 1 top y (λ k range exact. let is = complete n top x k range ((same k).0 exact) in false≢true cc)

-- A command whose setting is that of the whole number of n times its float, where each setting has one number.
module _ (setting : ℕ → Setting) (refusal : Refusal) (one : (j k : ℕ) → setting j ≡ setting k → j ≡ k) where
  -- decoded to the setting of k, it had the whole number k
  number_is : (w : Option ℕ) (k : ℕ) → setting_by setting refusal w ≡ Ok (setting k) → w ≡ Some k
  number_is (Some j) k e = ap Some (one j k cc)
  number_is None k e = cc

  -- so it is decoded to that setting exactly if the float is k / n, with k at most top
  exactly : (n top : ℕ) (x : Float) (k : ℕ)
      → (setting_by setting refusal (whole_of n top x) ≡ Ok (setting k)) ↔ (k ≤ top) × IsExactly x k n
  exactly n top x k = (
    λ e. sound n top x k (number_is (whole_of n top x) k e),
    λ (range, exact). ap (setting_by setting refusal) (complete n top x k range exact),
  )

pub decoding_is_exact : DecodingIsExact
decoding_is_exact = record {
  off = refl;
  mixes = exactly S.Mix NotAStop (λ j k e. cc) 256 256;
  holds = exactly S.Hold NotAnIntensity (λ j k e. cc) 1 765;
  no_stop = λ x never. ap (λ (w : Option ℕ). refusal_of (as_mix w)) (none 256 256 x never);
  no_intensity = λ x never. ap (λ (w : Option ℕ). refusal_of (as_hold w)) (none 1 765 x never);
}

-- the full balance is the stop 256
pub full_balance_lem : decoded full_balance ≡ Ok (S.Mix 256)
unfolding whole_of
full_balance_lem = refl
