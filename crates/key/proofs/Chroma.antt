-- Chroma from the differences of channels.
use mathlib.Core.Path.{◌≡◌, ap, ap₂, ◌∙◌}
use mathlib.Core.Logic.{◌⊎◌, inl, inr, ⊎_elim}
use Prim.Native.Nat.{ℕ, ◌+◌, ◌-◌, ◌*◌, ◌<◌, ◌≤◌}
use native.Mathlib.Nat.{le_refl, le_trans, mul_comm, mul-one, add-mul}
use native.Mathlib.Omega.{arith}
use Rattle.rounding.specs.Fraction.{Fraction, whole, ◌⊗◌, Within}
use Rattle.tables.proofs.Cases.{either}
use Rattle.pixel.specs.Accuracy.{WithinSteps, KeepsDifferences}
use Rattle.pixel.specs.Move.{Channel, Channel.red, Channel.green, Channel.blue, sample}
use Rattle.pixel.specs.declared.Pixel.{Pixel}
use Rattle.key.specs.Hue.{greatest, least, chroma}

-- a difference that is kept, where no subtraction is cut off
module _ (w : ℕ) (k : Fraction) {x y x' y' : ℕ} (le : y ≤ x) (le' : y' ≤ x') (kept : WithinSteps w k x y x' y') where
  products : (n : ℕ) → (x * n ≡ (x - y) * n + y * n) × (x' * n ≡ (x' - y') * n + y' * n)
  products n =
      (ap (λ (t : ℕ). t * n) (omega arith) ∙ add-mul (x - y) y n, ap (λ (t : ℕ). t * n) (omega arith) ∙ add-mul (x' - y') y' n)

  pub not_above : (x' - y') * k.den < (x - y) * k.num + w * k.den
  not_above = omega (arith, kept.0, (products k.num).0, (products k.den).1)

  pub not_below : (x - y) * k.num < (x' - y') * k.den + w * k.den
  not_below = omega (arith, kept.1, (products k.num).0, (products k.den).1)

-- the chroma of a pixel whose greatest and least sample are known
pub spread_is : (p : Pixel) {hi lo : ℕ} → greatest p ≡ hi → least p ≡ lo → chroma p ≡ hi - lo
unfolding chroma
spread_is p e e' = ap₂ ◌-◌ e e'

-- one channel comes first in any order of numbers
first_channel : (R : ℕ → ℕ → Type 0) → ((x : ℕ) → R x x) → ((x y z : ℕ) → R x y → R y z → R x z) → ((x y : ℕ) → R x y ⊎ R y x)
    → (p : Pixel) → (c : Channel) × ((a : Channel) → R (sample p c) (sample p a))
first_channel R same through total p =
    ⊎_elim
    (λ rg.
    ⊎_elim (λ rb. (red, elim [ red ↦ same _ | green ↦ rg | blue ↦ rb ]))
    (λ br. (blue, elim [ red ↦ br | green ↦ through _ _ _ br rg | blue ↦ same _ ]))
    (total p.r p.b))
    (λ gr.
    ⊎_elim (λ gb. (green, elim [ red ↦ gr | green ↦ same _ | blue ↦ gb ]))
    (λ bg. (blue, elim [ red ↦ through _ _ _ bg gr | green ↦ bg | blue ↦ same _ ]))
    (total p.g p.b))
    (total p.r p.g)

-- the channels of a pixel's least and greatest sample
record Ends (p : Pixel) (lo hi : Channel) : Type 0 where
  lowest : (a : Channel) → sample p lo ≤ sample p a
  highest : (a : Channel) → sample p a ≤ sample p hi

has_ends : (p : Pixel) → (lo hi : Channel) × Ends p lo hi
has_ends p =
    let (lo, lowest) = first_channel ◌≤◌ le_refl (λ x y z a b. le_trans a b) either_way p in
    let (hi, highest) = first_channel (λ (x y : ℕ). y ≤ x) le_refl (λ x y z a b. le_trans b a) (λ x y. either_way y x) p in
    (lo, hi, record { lowest = lowest; highest = highest })
  where
    either_way : (x y : ℕ) → (x ≤ y) ⊎ (y ≤ x)
    either_way x y = either x y (λ l. inl l) (λ l. inr (omega arith))

-- the chroma lies between them
module _ (p : Pixel) {lo hi : Channel} (e : Ends p lo hi) where
  greatest_is : greatest p ≡ sample p hi
  greatest_is = omega (arith, e.highest red, e.highest green, e.highest blue, in_greatest hi)
    where
      in_greatest : (a : Channel) → sample p a ≤ greatest p
      in_greatest red = omega arith
      in_greatest green = omega arith
      in_greatest blue = omega arith

  least_is : least p ≡ sample p lo
  least_is = omega (arith, e.lowest red, e.lowest green, e.lowest blue, in_least lo)
    where
      in_least : (a : Channel) → least p ≤ sample p a
      in_least red = omega arith
      in_least green = omega arith
      in_least blue = omega arith

  chroma_between : chroma p ≡ sample p hi - sample p lo
  chroma_between = spread_is p greatest_is least_is

-- What a pixel written from p keeps, where it keeps differences by the factor k to less than w steps.
module _ (w : ℕ) (k : Fraction) (p q : Pixel) (d : KeepsDifferences w k p q) where
  -- the ends stay where they are
  same_ends : {lo hi : Channel} → Ends p lo hi → Ends q lo hi
  same_ends {lo} {hi} e = record { lowest = λ a. d.order lo a (e.lowest a); highest = λ a. d.order a hi (e.highest a) }

  pub grey_stays : chroma p ≡ 0 → chroma q ≡ 0
  grey_stays grey =
      let (lo, hi, e) = has_ends p in
      omega (arith, chroma_between p e, chroma_between q (same_ends e), d.order hi lo (omega (arith, chroma_between p e)))

  pub keeps_chroma : Within (whole w) (whole (chroma q)) (k ⊗ whole (chroma p))
  keeps_chroma =
      let (lo, hi, e) = has_ends p in
      let kept = d.difference hi lo in
      let c : chroma p ≡ sample p hi - sample p lo = chroma_between p e in
      let c' : chroma q ≡ sample q hi - sample q lo = chroma_between q (same_ends e) in
      let above : chroma q * k.den < chroma p * k.num + w * k.den = rw (c, c') (not_above w k (e.lowest hi) ((same_ends e).lowest hi) kept) in
      let below : chroma p * k.num < chroma q * k.den + w * k.den = rw (c, c') (not_below w k (e.lowest hi) ((same_ends e).lowest hi) kept) in (
        omega (arith, above, mul_comm (chroma p) k.num, ap (λ (t : ℕ). chroma q * t) (mul-one k.den)),
        omega (arith, below, mul_comm (chroma p) k.num, ap (λ (t : ℕ). (chroma q + w) * t) (mul-one k.den), add-mul (chroma q) w k.den),
      )
