-- What the functions of this crate that no customer calls require or ensure. No outside call's contract cites these.
use Rattle.std.specs.Prelude.{true, List, map, ◌≡◌, ℕ, ◌+◌, ◌/◌, ◌^◌, ◌≤◌, ◌<◌, length}
use Rattle.tables.specs.Table.{at}
use Rattle.pixel.specs.Strip.{is_whole, pixel_from}
use Rattle.pixel.specs.declared.Pixel.{Pixel}

-- No count can pass 32 bits when n pixels are added.
abbrev pub RoomFor : ℕ → (ℕ → ℕ) → Type 0
RoomFor n count = (s : ℕ) → s ≤ 765 → count s + n < 2 ^ 32

-- There are as many counts as intensities, and each has room for one pixel more.
pub record PixelFits (counts : List ℕ) : Type 0 where
  pub size : length counts ≡ 766
  pub room : RoomFor 1 (at counts)

-- The strip is made of whole pixels, and no count can pass 32 bits when they are added.
pub record CountsFit (counts strip : List ℕ) : Type 0 where
  pub whole : is_whole (length strip) ≡ true
  pub fit : RoomFor (length strip / 3) (at counts)

-- The pixels of arrays of three bytes.
abbrev pub arrays_pixels : List (List ℕ) → List Pixel
arrays_pixels = map (λ bytes. pixel_from bytes 0)

-- What four histograms count, added up, of the intensity s.
abbrev pub sum_of_four : List ℕ → List ℕ → List ℕ → List ℕ → ℕ → ℕ
sum_of_four first second third fourth s = at first s + at second s + at third s + at fourth s

-- No such sum passes 32 bits.
abbrev pub FourFit : List ℕ → List ℕ → List ℕ → List ℕ → Type 0
FourFit first second third fourth = (s : ℕ) → s ≤ 765 → sum_of_four first second third fourth s < 2 ^ 32
