-- What is written under a setting keeps its rules.
use mathlib.Core.Path.{◌≡◌, refl, sym, subst}
use mathlib.Core.Bool.{Bool, true, false, cond}
use mathlib.Core.Logic.{◌⊎◌, inl, inr, ⊎_elim}
use Prim.Native.Nat.{ℕ, ◌*◌, ◌+◌, ◌-◌, ◌≤◌}
use native.Mathlib.Omega.{arith}
use borrow.Author.Tests.{eqb-true, eq-eqb, ne_eqb}
use lib.Dec.{eqb}
use Rattle.rounding.specs.Fraction.{Fraction, whole, ◌over◌}
use Rattle.tables.proofs.Cases.{either}
use Rattle.pixel.specs.Accuracy.{factor, mission, PixelAccurate}
use Rattle.pixel.specs.Move.{InRange, intensity, moved}
use Rattle.pixel.specs.declared.Method.{Method}
use Rattle.pixel.specs.declared.Pixel.{Pixel}
use Rattle.pixel.proofs.Accurate.{moves_are_accurate, ends_stay}
use Rattle.pixel.proofs.Strips.{intensity_in_range}
use Rattle.settings.specs.Accuracy.{mix_tolerance, intensity_under, SettingsAreAccurate}
use Rattle.settings.specs.Setting.{mixed_pixel}
use Rattle.settings.specs.declared.Setting.TheVariants.{Off, Mix, Hold}
use Rattle.settings.proofs.Mixing.{mix_factor, mixed_full, mixed_accurate, full_accurate}

-- a pixel that is written as it is keeps its own intensity, and its differences by the factor 1
copied : (p : Pixel) → InRange p → PixelAccurate mission (1 over 1) (whole (intensity p)) p p
copied p bytes = record {
  range = bytes;
  sum = (omega arith, omega arith, omega arith, omega arith, omega arith);
  channels = record { denominator = omega arith; order = λ a b h. h; difference = λ a b. (omega arith, omega arith) };
}

-- mixed: the mission's own rules at amount 1, those of the mix at every other
mix_accurate : (k : ℕ) → k ≤ 256 → (φ : Fraction) (f : ℕ) (p q : Pixel) → InRange p → PixelAccurate mission φ (whole f) p q
    → PixelAccurate (cond (eqb k 256) mission mix_tolerance) (mix_factor k φ) ((intensity p * (256 - k) + f * k) over 256) p (mixed_pixel k p q)
mix_accurate k le φ f p q bytes balance = go (eqb k 256) (eqb-true k 256)
  where
    go : (t : Bool) → (t ≡ true → k ≡ 256)
        → PixelAccurate (cond t mission mix_tolerance) (mix_factor k φ) ((intensity p * (256 - k) + f * k) over 256) p (mixed_pixel k p q)
    go true is = rw (mixed_full k p q (is refl), is refl) (full_accurate φ f p q balance)
    go false is = mixed_accurate k le φ f p q bytes balance

-- the factor of black and white is 1
end_factor : (m : Method) (s v : ℕ) → (s ≡ 0) ⊎ (s ≡ 765) → factor m s v ≡ 1 over 1
unfolding factor
end_factor m s v =
    ⊎_elim (λ (e : s ≡ 0). simp (eq-eqb s 0 e)) (λ (e : s ≡ 765). simp (ne_eqb s 0 (λ z. omega arith), eq-eqb s 765 e))

-- held: black and white stay, and every other pixel is moved to the held value
pub held_accurate : (v : ℕ) → v ≤ 765 → (m : Method) (p : Pixel) (f : ℕ) → InRange p
    → PixelAccurate mission (factor m (intensity p) v) (intensity_under (Hold v) (intensity p) f) p (moved m p v)
held_accurate v le m p f bytes =
    let s = intensity p in
    let at_end : (s ≡ 0) ⊎ (s ≡ 765) → PixelAccurate mission (factor m s v) (whole s) p (moved m p v) =
    λ e. rw (ends_stay m p v bytes e, end_factor m s v e) (copied p bytes) in
    either s 0
    (λ l.
    let e : s ≡ 0 = omega arith in
    simp (eq-eqb s 0 e) (at_end (inl e)))
    (λ light.
    let dark : eqb s 0 ≡ false = ne_eqb s 0 (λ z. omega arith) in
    either 765 s
    (λ l.
    let e : s ≡ 765 = omega (arith, intensity_in_range p bytes) in
    simp (dark, eq-eqb s 765 e) (at_end (inr e)))
    (λ less.
    rw (dark, ne_eqb s 765 (λ z. omega arith))
    (moves_are_accurate m p v bytes le
    (record { black = λ (e : s ≡ 0). omega arith; white = λ (e : s ≡ 765). omega arith }))))

pub settings_are_accurate : SettingsAreAccurate
settings_are_accurate Off m p f ok bytes le ends = record { rules = copied p bytes; beside = refl }
settings_are_accurate (Mix k) m p f ok bytes le ends =
    let balance = moves_are_accurate m p f bytes le ends in
    record {
      rules = mix_accurate k ok (factor m (intensity p) f) f p (moved m p f) bytes balance;
      beside = λ e.
          subst (PixelAccurate mission (factor m (intensity p) f) (whole f) p) (sym (mixed_full k p (moved m p f) e)) balance;
    }
settings_are_accurate (Hold v) m p f ok bytes le ends =
    record { rules = held_accurate v ok m p f bytes; beside = ends_stay m p v bytes }
