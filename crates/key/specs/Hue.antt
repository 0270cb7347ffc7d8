-- Hue, as HSV and HSL have it, and chroma, the part of a pixel that is not grey; and how far hue may move.
use Rattle.std.specs.Prelude.{cond, ◌⊎◌, ℕ, ◌+◌, ◌-◌, ◌*◌, ◌<◌, ◌≤◌, min, max, leb, eqb}
use Rattle.rounding.specs.Fraction.{Fraction, whole, ◌over◌, ◌⊕◌, ◌≺◌, Within}
use Rattle.pixel.specs.Accuracy.{KeepsDifferences}
use Rattle.pixel.specs.Move.{Channel, sample}
use Rattle.pixel.specs.declared.Pixel.{Pixel}

-- The greatest and the least of the three samples.
abbrev pub greatest : Pixel → ℕ
greatest p = max p.r (max p.g p.b)

abbrev pub least : Pixel → ℕ
least p = min p.r (min p.g p.b)

-- Chroma, in code values: what HSV and HSL divide to get their saturations. A grey pixel has none.
unfoldable pub chroma : Pixel → ℕ
chroma p = greatest p - least p

-- n / c sixths of a turn, in degrees.
abbrev pub sixths : ℕ → ℕ → Fraction
sixths n c = (60 * n) over c

-- Hue in degrees, from 0 up to 360. A grey pixel has none: its fraction would be over 0.
unfoldable pub hue : Pixel → Fraction
hue p =
    let c = chroma p in
    cond (eqb p.r (greatest p))
    (cond (leb p.b p.g)
    -- red is greatest: 60 × (g − b) / c
    (sixths (p.g - p.b) c)
    -- and where that is below 0, a whole turn further on: 60 × (6 + (g − b) / c)
    (sixths (6 * c + p.g - p.b) c))
    (cond (eqb p.g (greatest p))
    -- green is: 60 × (2 + (b − r) / c)
    (sixths (2 * c + p.b - p.r) c)
    -- blue is: 60 × (4 + (r − g) / c)
    (sixths (4 * c + p.r - p.g) c))

-- Hue is an angle: no subtraction is cut off at 0, and the hue of a pixel that is not grey is less than a whole turn.
pub record HueIsAngle (p : Pixel) : Type 0 where
  pub red_fits : p.b ≤ 6 * chroma p + p.g
  pub green_fits : p.r ≤ 2 * chroma p + p.b
  pub blue_fits : p.g ≤ 4 * chroma p + p.r
  pub less_than_turn : 0 < chroma p → hue p ≺ whole 360

-- Claim: the hue of every pixel is an angle. Proved: proofs/Hue.antt, `hues_are_angles`.
abbrev pub HuesAreAngles : Type 0
HuesAreAngles = (p : Pixel) → HueIsAngle p

-- Two angles are less than w degrees apart on the circle: as they stand, or one of them a whole turn further on.
abbrev pub AnglesWithin : Fraction → Fraction → Fraction → Type 0
AnglesWithin w x y = Within w x y ⊎ (Within w (x ⊕ whole 360) y ⊎ Within w x (y ⊕ whole 360))

-- The answer to "keeps hue to what?", at a written chroma of c and differences that are kept to less than n steps: less than 60 × n / c
-- degrees. The mission's n is 1.
abbrev pub hue_bound : ℕ → ℕ → Fraction
hue_bound n c = (60 * n) over c

-- Where the pixel written, q, is not grey, its hue is less than that from the hue of p.
abbrev pub KeepsAngle : ℕ → Pixel → Pixel → Type 0
KeepsAngle n p q = 0 < chroma q → AnglesWithin (hue_bound n (chroma q)) (hue p) (hue q)

-- More than that, and without an angle: p has in its channels lo, mid and hi the samples min ≤ mid ≤ max, and q, written for it, min', mid'
-- and max'. The order says in which sixth of the turn a hue is, and the middle sample where in it.
pub record MiddleKept (n : ℕ) (p q : Pixel) (lo mid hi : Channel) : Type 0 where
  -- min' ≤ mid' ≤ max'
  pub lower : sample q lo ≤ sample q mid
  pub upper : sample q mid ≤ sample q hi
  -- | (mid' − min') × (max − min) − (mid − min) × (max' − min') | < n × (max − min)
  pub above : (sample q mid - sample q lo) * (sample p hi - sample p lo)
      < (sample p mid - sample p lo) * (sample q hi - sample q lo) + n * (sample p hi - sample p lo)
  pub below : (sample p mid - sample p lo) * (sample q hi - sample q lo)
      < (sample q mid - sample q lo) * (sample p hi - sample p lo) + n * (sample p hi - sample p lo)

-- Whichever channels these are, where max > min.
abbrev pub KeepsMiddle : ℕ → Pixel → Pixel → Type 0
KeepsMiddle n p q =
    (lo mid hi : Channel) → sample p lo ≤ sample p mid → sample p mid ≤ sample p hi → sample p lo < sample p hi → MiddleKept n p q lo mid hi

-- Hue is kept, said both ways.
pub record KeepsHue (n : ℕ) (p q : Pixel) : Type 0 where
  pub angle : KeepsAngle n p q
  pub middle : KeepsMiddle n p q

-- Claim: where differences are kept, hue is, whatever made q and by whichever factor. Proved: proofs/Hue.antt, `differences_keep_hue`.
abbrev pub DifferencesKeepHue : Type 0
DifferencesKeepHue = (n : ℕ) (k : Fraction) (p q : Pixel) → KeepsDifferences n k p q → KeepsHue n p q
