-- Laws of strips and their pixels.
use mathlib.Core.Path.{◌≡◌, refl, ap, subst, sym, ◌∙◌}
use mathlib.Core.Bool.{true}
use mathlib.Core.List.Memᴰ
use mathlib.Core.List.{List, [], ◌∷◌}
use mathlib.Core.Logic.{⊎_elim}
use Prim.Native.Nat.{ℕ, suc, ◌+◌, ◌*◌, ◌/◌, ◌%◌, ◌<◌, ◌≤◌}
use native.Mathlib.Numerals.{towards_suc}
use native.Mathlib.Omega.{arith}
use lib.ListN.{length, drop}
use lib.Seq.{drop-cons}
use borrow.Author.Tests.{eqb-true}
use Rattle.tables.specs.Table.{at, ◌among◌}
use Rattle.pixel.specs.Move.{Channel.red, Channel.green, Channel.blue, InRange, intensity}
use Rattle.pixel.specs.Strip.{is_whole, pixels_of, bytes_of, pixel_at, Bytes}
use Rattle.pixel.specs.declared.Pixel.{Pixel}

-- a whole number of pixels leaves no byte over
pub whole_means : (n : ℕ) → is_whole n ≡ true → n % 3 ≡ 0
whole_means n = eqb-true (n % 3) 0

-- a strip has a pixel for each three bytes
pub length_pixels : (strip : List ℕ) → length (pixels_of strip) ≡ length strip / 3
length_pixels [] = refl
length_pixels (r ∷ []) = refl
length_pixels (r ∷ g ∷ []) = refl
length_pixels (r ∷ g ∷ b ∷ rest) = omega (arith, length_pixels rest)

-- and a pixel gives three bytes
pub length_bytes : (ps : List Pixel) → length (bytes_of ps) ≡ 3 * length ps
length_bytes [] = refl
length_bytes (p ∷ ps) = omega (arith, length_bytes ps)

-- three bytes make a pixel in range
three_in_range : (p : Pixel) → p.r < 256 → p.g < 256 → p.b < 256 → InRange p
three_in_range p hr hg hb red = omega arith
three_in_range p hr hg hb green = omega arith
three_in_range p hr hg hb blue = omega arith

-- the pixel at any place of a strip is in range
pub pixel_in_range : (strip : List ℕ) → Bytes strip → (i : ℕ) → InRange (pixel_at strip i)
pixel_in_range strip bytes i =
    three_in_range (pixel_at strip i) (bytes (3 * i)) (bytes (3 * i + 1)) (bytes (3 * i + 2))

-- so is each of a strip's pixels
pub pixels_in_range : (strip : List ℕ) → Bytes strip → (p : Pixel) → p among pixels_of strip → InRange p
pixels_in_range [] bytes p m = absurd (Memᴰ.not-nil m)
pixels_in_range (r ∷ []) bytes p m = absurd (Memᴰ.not-nil m)
pixels_in_range (r ∷ g ∷ []) bytes p m = absurd (Memᴰ.not-nil m)
pixels_in_range (r ∷ g ∷ b ∷ rest) bytes p m =
    ⊎_elim
    (λ (e : p ≡ record { r = r; g = g; b = b }).
    subst InRange (sym e) (three_in_range (record { r = r; g = g; b = b }) (bytes 0) (bytes 1) (bytes 2)))
    (λ (n : p among pixels_of rest). pixels_in_range rest (λ i. bytes (suc (suc (suc i)))) p n)
    (Memᴰ.cases_cons m)

-- a pixel in range has an intensity of at most 765
pub intensity_in_range : (p : Pixel) → InRange p → intensity p ≤ 765
intensity_in_range p h = omega (arith, h red, h green, h blue)

-- from byte i on: the three bytes of the pixel there, and then what follows them
pub drop_three : (strip : List ℕ) (i : ℕ) → i + 2 < length strip
    → drop i strip ≡ at strip i ∷ at strip (i + 1) ∷ at strip (i + 2) ∷ drop (i + 3) strip
drop_three strip i h =
    simp towards_suc
    (drop-cons strip i 0 (omega arith)
    ∙ ap (λ (l : List ℕ). at strip i ∷ l)
    (drop-cons strip (suc i) 0 (omega arith)
    ∙ ap (λ (l : List ℕ). at strip (suc i) ∷ l) (drop-cons strip (suc (suc i)) 0 (omega arith))))
