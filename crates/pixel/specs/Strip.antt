-- A STRIP of document 01 is a run of bytes, three to a pixel: red, green, blue.
use Rattle.std.specs.Prelude.{Bool, List, [], ◌∷◌, ℕ, ◌+◌, ◌*◌, ◌%◌, ◌<◌, eqb}
use Rattle.tables.specs.Table.{at}
use Rattle.pixel.specs.declared.Pixel.{Pixel}

-- Whether a length is a multiple of 3.
abbrev pub is_whole : ℕ → Bool
is_whole n = eqb (n % 3) 0

-- The pixels of a strip, in order; one or two bytes left over make no pixel.
abbrev pub pixels_of : List ℕ → List Pixel
pixels_of [] = []
pixels_of (r ∷ []) = []
pixels_of (r ∷ g ∷ []) = []
pixels_of (r ∷ g ∷ b ∷ rest) = record { r = r; g = g; b = b } ∷ pixels_of rest

-- The strip of some pixels.
abbrev pub bytes_of : List Pixel → List ℕ
bytes_of [] = []
bytes_of (p ∷ ps) = p.r ∷ p.g ∷ p.b ∷ bytes_of ps

-- The pixel whose first byte stands at i; past the end, black.
abbrev pub pixel_from : List ℕ → ℕ → Pixel
pixel_from strip i = record { r = at strip i; g = at strip (i + 1); b = at strip (i + 2) }

-- The pixel at place i.
abbrev pub pixel_at : List ℕ → ℕ → Pixel
pixel_at strip i = pixel_from strip (3 * i)

-- Every number of the list is a byte.
abbrev pub Bytes : List ℕ → Type 0
Bytes list = (i : ℕ) → at list i < 256
