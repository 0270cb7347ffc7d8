-- Strips under the settings of the dial.
use mathlib.Core.Path.{◌≡◌, refl, ap, sym}
use mathlib.Core.Bool.{true}
use mathlib.Core.List.{List, [], ◌∷◌}
use Prim.Native.Nat.{ℕ, ◌%◌}
use native.Mathlib.Omega.{arith}
use lib.ListN.{length, replicate, get_or-replicate}
use Rattle.tables.specs.Table.{at}
use Rattle.pixel.specs.Move.{intensity, moved}
use Rattle.pixel.specs.Strip.{is_whole, Bytes}
use Rattle.pixel.specs.declared.Method.{Method}
use Rattle.pixel.specs.declared.Pixel.{Pixel}
use Rattle.pixel.proofs.Strips.{whole_means, pixels_in_range, intensity_in_range}
use Rattle.settings.specs.Inner.{mixed_bytes}
use Rattle.settings.specs.Setting.{mixed_pixel}
use Rattle.settings.specs.declared.Setting.TheVariants.{Off, Mix, Hold}
use Rattle.settings.proofs.Mixing.{mixed_full}
use Rattle.colouring.specs.Colouring.{each_pixel, coloured_strip, coloured_under}
use Rattle.colouring.specs.Written.{AmountOneIsFullBalance}
use Rattle.colouring.proofs.EachPixel.{each_pixel_same}

-- whole pixels that stay make the same strip
each_pixel_stays : (strip : List ℕ) → length strip % 3 ≡ 0 → each_pixel (λ p. p) strip ≡ strip
each_pixel_stays [] whole = refl
each_pixel_stays (r ∷ []) whole = absurd (omega arith)
each_pixel_stays (r ∷ g ∷ []) whole = absurd (omega arith)
each_pixel_stays (r ∷ g ∷ b ∷ rest) whole = ap (λ (l : List ℕ). r ∷ g ∷ b ∷ l) (each_pixel_stays rest (omega arith))

pub off_copies : (method : Method) (curve source : List ℕ) → is_whole (length source) ≡ true → source ≡ coloured_under Off method curve source
unfolding coloured_under
off_copies method curve source whole = sym (each_pixel_stays source (whole_means (length source) whole))

-- bytes mixed with those of a changed strip are its pixels, mixed with the changed ones
mixed_each : (k : ℕ) (change : Pixel → Pixel) (source : List ℕ)
    → mixed_bytes k source (each_pixel change source) ≡ each_pixel (λ p. mixed_pixel k p (change p)) source
mixed_each k change [] = refl
mixed_each k change (r ∷ []) = refl
mixed_each k change (r ∷ g ∷ []) = refl
mixed_each k change (r ∷ g ∷ b ∷ rest) =
    let q = change (record { r = r; g = g; b = b }) in
    let p : Pixel = mixed_pixel k (record { r = r; g = g; b = b }) q in
    ap (λ (l : List ℕ). p.r ∷ p.g ∷ p.b ∷ l) (mixed_each k change rest)

pub mix_mixes : (k : ℕ) (method : Method) (curve source : List ℕ)
    → mixed_bytes k source (coloured_strip method curve source) ≡ coloured_under (Mix k) method curve source
unfolding coloured_strip coloured_under
mix_mixes k method curve source = mixed_each k (λ p. moved method p (at curve (intensity p))) source

pub amount_one_is_full_balance : AmountOneIsFullBalance
unfolding coloured_strip coloured_under
amount_one_is_full_balance method curve source = each_pixel_same _ _ source (λ p m. mixed_full 256 p (moved method p (at curve (intensity p))) refl)

-- a curve with one entry for every intensity holds all pixels there
pub held_strip : (v : ℕ) (method : Method) (curve source : List ℕ) → Bytes source
    → coloured_strip method (replicate 766 v) source ≡ coloured_under (Hold v) method curve source
unfolding coloured_strip coloured_under
held_strip v method curve source bytes =
    each_pixel_same _ _ source (λ p among.
    let le = intensity_in_range p (pixels_in_range source bytes p among) in
    ap (moved method p) (get_or-replicate 766 (intensity p) v 0 (omega arith)))
