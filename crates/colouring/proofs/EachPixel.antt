-- A strip whose pixels are changed, place by place.
use mathlib.Core.Path.{◌≡◌, refl, sym, ap, ap₂, ◌∙◌, subst}
use mathlib.Core.Bool.{true}
use mathlib.Core.List.Memᴰ
use mathlib.Core.List.{List, [], ◌∷◌, map}
use Prim.Native.Nat.{ℕ, zero, suc, ◌+◌, ◌*◌, ◌/◌, ◌%◌, ◌<◌}
use native.Mathlib.Omega.{arith}
use lib.ListN.{length, length-map}
use Rattle.tables.specs.Table.{◌among◌}
use Rattle.pixel.specs.Strip.{is_whole, pixels_of, bytes_of, pixel_from, pixel_at}
use Rattle.pixel.specs.declared.Pixel.{Pixel}
use Rattle.pixel.proofs.Strips.{whole_means, length_pixels, length_bytes}
use Rattle.colouring.specs.Colouring.{each_pixel}

-- past the first pixel the places are those of the rest
pixel_at_suc : (r g b : ℕ) (rest : List ℕ) (i : ℕ) → pixel_at (r ∷ g ∷ b ∷ rest) (suc i) ≡ pixel_at rest i
pixel_at_suc r g b rest i =
    let e₁ : 3 * suc i + 1 ≡ suc (suc (suc (3 * i + 1))) = omega arith in
    let e₂ : 3 * suc i + 2 ≡ suc (suc (suc (3 * i + 2))) = omega arith in
    let e₀ : 3 * suc i ≡ suc (suc (suc (3 * i))) = omega arith in
    rw (e₁, e₂, e₀)

-- each place holds the pixel that stood there, changed
pub each_pixel_at : (f : Pixel → Pixel) (strip : List ℕ) (i : ℕ) → i < length strip / 3
    → pixel_at (each_pixel f strip) i ≡ f (pixel_at strip i)
each_pixel_at f [] i h = absurd (omega arith)
each_pixel_at f (r ∷ []) i h = absurd (omega arith)
each_pixel_at f (r ∷ g ∷ []) i h = absurd (omega arith)
each_pixel_at f (r ∷ g ∷ b ∷ rest) zero h = refl
each_pixel_at f (r ∷ g ∷ b ∷ rest) (suc i) h =
    pixel_at_suc _ _ _ (each_pixel f rest) i
    ∙ each_pixel_at f rest i (omega arith)
    ∙ sym (ap f (pixel_at_suc r g b rest i))

-- the same, the place given by the pixel's first byte
pub each_pixel_from : (f : Pixel → Pixel) (strip : List ℕ) (i : ℕ) → i % 3 ≡ 0 → i < length strip → length strip % 3 ≡ 0
    → pixel_from (each_pixel f strip) i ≡ f (pixel_from strip i)
each_pixel_from f strip i threes inside whole =
    subst (λ (j : ℕ). pixel_from (each_pixel f strip) j ≡ f (pixel_from strip j)) (omega arith)
    (each_pixel_at f strip (i / 3) (omega arith))

-- changes that agree on the pixels of a strip make the same strip of it
pub each_pixel_same : (f g : Pixel → Pixel) (strip : List ℕ) → ((p : Pixel) → p among pixels_of strip → f p ≡ g p)
    → each_pixel f strip ≡ each_pixel g strip
each_pixel_same f g strip same = ap bytes_of (go (pixels_of strip) same)
  where
    go : (ps : List Pixel) → ((p : Pixel) → p among ps → f p ≡ g p) → map f ps ≡ map g ps
    go [] same = refl
    go (p ∷ ps) same = ap₂ ◌∷◌ (same p (Memᴰ.head refl)) (go ps (λ q m. same q (Memᴰ.tail m)))

-- a strip of whole pixels keeps its length
pub each_pixel_length : (f : Pixel → Pixel) (strip : List ℕ) → is_whole (length strip) ≡ true
    → length (each_pixel f strip) ≡ length strip
each_pixel_length f strip whole =
    omega (
      arith,
      length_bytes (map f (pixels_of strip)),
      length-map (pixels_of strip) f,
      length_pixels strip,
      whole_means (length strip) whole,
    )
