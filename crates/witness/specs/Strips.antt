-- The strips of the computed calls, on a shot and by the host.
use Rattle.std.specs.Prelude.{List, [], ◌∷◌, ℕ}

-- Two pixels, of intensities 60 and 630.
abbrev pub two : List ℕ
two = 10 ∷ 20 ∷ 30 ∷ 200 ∷ 210 ∷ 220 ∷ []

-- One pixel, of intensity 300.
abbrev pub one : List ℕ
one = 90 ∷ 100 ∷ 110 ∷ []

-- Two pixels to be coloured, of intensities 60 and 300.
abbrev pub both : List ℕ
both = 10 ∷ 20 ∷ 30 ∷ 90 ∷ 100 ∷ 110 ∷ []

-- A pixel and a third.
abbrev pub uneven : List ℕ
uneven = 1 ∷ 2 ∷ 3 ∷ 4 ∷ []
