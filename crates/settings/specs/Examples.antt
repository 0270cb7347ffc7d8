-- Pixels written under the settings of the dial, in figures.
use Rattle.std.specs.Prelude.{◌≡◌, List, [], ◌∷◌, map, ℕ}
use Rattle.pixel.specs.declared.Method.{Method}
use Rattle.pixel.specs.declared.Method.TheVariants.{NaikMurthy, YangLee}
use Rattle.pixel.specs.declared.Pixel.{Pixel}
use Rattle.settings.specs.Setting.{written_under}
use Rattle.settings.specs.declared.Setting.{Setting}
use Rattle.settings.specs.declared.Setting.TheVariants.{Off, Mix, Hold}

abbrev pub rgb : ℕ → ℕ → ℕ → Pixel
rgb r g b = record { r = r; g = g; b = b }

-- A setting, a method, a pixel with the curve's entry for its intensity, and what is written for it.
pub record Example : Type 0 where
  pub setting : Setting
  pub method : Method
  pub pixel : Pixel
  pub entry : ℕ
  pub written : Pixel

abbrev pub example : Setting → Method → Pixel → ℕ → Pixel → Example
example setting method pixel entry written =
    record { setting = setting; method = method; pixel = pixel; entry = entry; written = written }

unfoldable pub examples : List Example
examples =
    -- off copies
    example Off YangLee (rgb 10 20 30) 405 (rgb 10 20 30)
    -- the stops from none to all of the balance, (105, 135, 165)
    ∷ example (Mix 0) YangLee (rgb 10 20 30) 405 (rgb 10 20 30)
    ∷ example (Mix 1) YangLee (rgb 10 20 30) 405 (rgb 10 20 31)
    ∷ example (Mix 128) YangLee (rgb 10 20 30) 405 (rgb 58 78 98)
    ∷ example (Mix 256) YangLee (rgb 10 20 30) 405 (rgb 105 135 165)
    -- the balance is rounded before it is mixed: 1/3 is 0, and (1 × 64 + 0 × 192 + 128) / 256 is 0 rounded down; with 1/3 it would be 1
    ∷ example (Mix 192) NaikMurthy (rgb 1 1 1) 1 (rgb 0 0 0)
    -- a sum of 510, where (126 × 1 + 514 × 255) / 256 = 512.48 is exact
    ∷ example (Mix 255) YangLee (rgb 21 41 64) 514 (rgb 149 169 192)
    -- a difference of 13, where 11.07 is exact
    ∷ example (Mix 254) YangLee (rgb 67 156 174) 243 (rgb 41 95 108)
    -- of two pixels of intensity 2, with the entry 267, one comes out at 264 and the other at 268
    ∷ example (Mix 255) YangLee (rgb 0 1 1) 267 (rgb 6 129 129)
    ∷ example (Mix 255) NaikMurthy (rgb 2 0 0) 267 (rgb 90 89 89)
    -- held, whatever the entry; black and white stay
    ∷ example (Hold 300) NaikMurthy (rgb 100 150 200) 765 (rgb 67 100 133)
    ∷ example (Hold 300) NaikMurthy (rgb 0 0 0) 0 (rgb 0 0 0)
    ∷ example (Hold 300) YangLee (rgb 255 255 255) 765 (rgb 255 255 255)
    ∷ []

-- Claim: each is written so. Proved: proofs/Examples.antt, `examples_hold`.
abbrev pub ExamplesHold : Type 0
ExamplesHold = map (λ e. written_under e.setting e.method e.entry e.pixel) examples ≡ map (λ e. e.written) examples
