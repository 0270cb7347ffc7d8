-- Hues and moves in figures.
use Rattle.std.specs.Prelude.{◌≡◌, List, [], ◌∷◌, map, ℕ, ◌+◌, ◌-◌, ◌*◌, ◌/◌, ◌≤◌}
use Rattle.rounding.specs.Fraction.{Fraction, whole, ◌over◌}
use Rattle.rounding.specs.Near.{near}
use Rattle.pixel.specs.Move.{moved}
use Rattle.pixel.specs.declared.Method.{Method}
use Rattle.pixel.specs.declared.Method.TheVariants.{NaikMurthy, YangLee}
use Rattle.pixel.specs.declared.Pixel.{Pixel}
use Rattle.settings.specs.Setting.{written_under}
use Rattle.settings.specs.declared.Setting.TheVariants.{Mix}
use Rattle.key.specs.Hue.{hue, hue_bound, AnglesWithin}
use Rattle.key.specs.RoundedDown.{rounded_down}

abbrev pub rgb : ℕ → ℕ → ℕ → Pixel
rgb r g b = record { r = r; g = g; b = b }

-- A move, with the hues of the pixel and of what is written for it.
pub record Example : Type 0 where
  pub method : Method
  pub pixel : Pixel
  pub target : ℕ
  pub written : Pixel
  pub hue_in : Fraction
  pub hue_out : Fraction

unfoldable pub examples : List Example
examples =
    -- the skin tone of docs/ACCURACY.md: 24 degrees, then 24.62; the bound is 60 / 39 = 1.54
    record {
      method = YangLee;
      pixel = rgb 49 34 24;
      target = 427;
      written = rgb 163 140 124;
      hue_in = 600 over 25;
      hue_out = 960 over 39;
    }
    -- 0.24 degrees, then 60; the written chroma is 1 and the bound 60: hue cannot move further
    ∷ record {
      method = NaikMurthy;
      pixel = rgb 255 1 0;
      target = 764;
      written = rgb 255 255 254;
      hue_in = 60 over 255;
      hue_out = 60 over 1;
    }
    -- across red: 359.7 degrees, then 0
    ∷ record {
      method = NaikMurthy;
      pixel = rgb 200 0 1;
      target = 100;
      written = rgb 100 0 0;
      hue_in = 71940 over 200;
      hue_out = 0 over 100;
    }
    ∷ []

-- Claim: the examples hold. Proved: proofs/Examples.antt, `examples_hold`.
pub record ExamplesHold : Type 0 where
  pub written : map (λ e. moved e.method e.pixel e.target) examples ≡ map (λ e. e.written) examples
  pub hue_in : map (λ e. hue e.pixel) examples ≡ map (λ e. e.hue_in) examples
  pub hue_out : map (λ e. hue e.written) examples ≡ map (λ e. e.hue_out) examples
  -- the second is one short of the bound: | (mid' − min') × (max − min) − (mid − min) × (max' − min') | = max − min − 1
  pub one_short : let p = rgb 255 1 0 in
      let q = moved NaikMurthy p 764 in
      (q.g - q.b) * (p.r - p.b) + 1 ≡ (p.g - p.b) * (q.r - q.b) + (p.r - p.b)
  -- so 59 degrees are too few
  pub not_within59 : AnglesWithin (whole 59) (hue (rgb 255 1 0)) (hue (rgb 255 255 254)) → ⊥
  -- mixed with its balance, (0, 1, 1), a pixel may turn by more than 60 / chroma degrees: from 239.06 to 180 at a chroma of 2
  pub mixed : written_under (Mix 255) NaikMurthy 2 (rgb 127 129 255) ≡ rgb 0 2 2
  pub mixed_beyond : AnglesWithin (hue_bound 1 2) (hue (rgb 127 129 255)) (hue (rgb 0 2 2)) → ⊥
  -- red, yellow, green, cyan, blue and magenta are 60 degrees apart
  pub corners : map hue (rgb 255 0 0 ∷ rgb 255 255 0 ∷ rgb 0 255 0 ∷ rgb 0 255 255 ∷ rgb 0 0 255 ∷ rgb 255 0 255 ∷ [])
      ≡ map (λ (angle : ℕ). (angle * 255) over 255) (0 ∷ 60 ∷ 120 ∷ 180 ∷ 240 ∷ 300 ∷ [])
  -- opposite hues are 180 degrees apart, not less
  pub opposite : AnglesWithin (whole 180) (whole 0) (whole 180) → ⊥
  -- samples that are not rounded alike lose the hue: with green rounded down and the others to the nearest, the bound is passed
  pub not_alike : let p = rgb 21 9 1 in
      let q = rgb (near (21 * 17) 31) (9 * 17 / 31) (near (1 * 17) 31) in
      (q.g - q.b) * (p.r - p.b) + (p.r - p.b) ≤ (p.g - p.b) * (q.r - q.b)
  -- rounded down, the intensity may come out two below the target
  pub two_below : rounded_down (rgb 1 1 1) 2 ≡ rgb 0 0 0
