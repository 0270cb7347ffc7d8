-- What functions of this program ensure. No customer calls them.
use Rattle.std.specs.Prelude.{cond, List, [], ◌∷◌, ℕ, ◌+◌, eqb}
use Rattle.pixel.specs.Move.{intensity}
use Rattle.pixel.specs.declared.Pixel.{Pixel}
use Rattle.measuring.specs.Histogram.{count_of}
use Rattle.frames.specs.declared.Tones.{Tones}

-- How many of the pixels stand before the first white one.
abbrev pub before_white : List Pixel → ℕ
before_white [] = 0
before_white (p ∷ ps) = cond (eqb (intensity p) 765) 0 (1 + before_white ps)

-- How many of them are black, how many are white, and how many stand before the first white one.
abbrev pub tones_of : List Pixel → Tones
tones_of ps = record { black = count_of ps 0; white = count_of ps 765; before = before_white ps }
