-- Moving a pixel to a target (document 01, "Moving a pixel"): f is the target, c a sample, d = 255 − c, t = 765 − s.
use Rattle.std.specs.Prelude.{cond, ℕ, ◌+◌, ◌-◌, ◌*◌, ◌≤◌, leb, eqb}
use Rattle.rounding.specs.Near.{near}
use Rattle.pixel.specs.declared.Pixel.{Pixel}
use Rattle.pixel.specs.declared.Method.{Method}
use Rattle.pixel.specs.declared.Method.TheVariants.{NaikMurthy, YangLee}

pub data Channel : Type 0 where
  red green blue : Channel

abbrev pub sample : Pixel → Channel → ℕ
sample p red = p.r
sample p green = p.g
sample p blue = p.b

-- Each sample is 0 to 255.
abbrev pub InRange : Pixel → Type 0
InRange p = (a : Channel) → sample p a ≤ 255

-- Document 01's SUM of a pixel, written s: the paper's intensity, in code values.
abbrev pub intensity : Pixel → ℕ
intensity p = p.r + p.g + p.b

-- Method 1, Naik and Murthy: the sample c of a pixel of intensity s, moved to f.
unfoldable pub naik_murthy : ℕ → ℕ → ℕ → ℕ
naik_murthy s f c =
    let d = 255 - c in
    let t = 765 - s in
    cond (leb f s)
    -- f at most s: near(c × f / s)
    (near (c * f) s)
    -- f above s: 255 − near(d × (765 − f) / t)
    (255 - near (d * (765 - f)) t)

-- Method 2, Yang and Lee: the same.
unfoldable pub yang_lee : ℕ → ℕ → ℕ → ℕ
yang_lee s f c =
    let d = 255 - c in
    let t = 765 - s in
    cond (leb s 255)
    (cond (leb f 255)
    -- s at most 255, f at most 255: near(c × f / s)
    (near (c * f) s)
    -- s at most 255, f above 255: 255 − near((765 − f) × (s − c) / (2 × s))
    (255 - near ((765 - f) * (s - c)) (2 * s)))
    (cond (leb s 510)
    -- s from 256 to 510: as method 1
    (naik_murthy s f c)
    (cond (leb f 510)
    -- s above 510, f at most 510: near(f × (t − d) / (2 × t))
    (near (f * (t - d)) (2 * t))
    -- s above 510, f above 510: 255 − near((765 − f) × d / t)
    (255 - near ((765 - f) * d) t)))

abbrev pub by_method : Method → ℕ → ℕ → ℕ → ℕ
by_method NaikMurthy = naik_murthy
by_method YangLee = yang_lee

-- A pixel with s = 0 stays black and one with s = 765 stays white, for every target.
unfoldable pub moved_sample : Method → ℕ → ℕ → ℕ → ℕ
moved_sample m s f c = cond (eqb s 0) 0 (cond (eqb s 765) 255 (by_method m s f c))

abbrev pub each_sample : (ℕ → ℕ) → Pixel → Pixel
each_sample to p = record { r = to p.r; g = to p.g; b = to p.b }

-- The pixel p, moved to the target f.
unfoldable pub moved : Method → Pixel → ℕ → Pixel
moved m p f = each_sample (moved_sample m (intensity p) f) p
