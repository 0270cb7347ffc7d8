-- Document 01, "Reference frames": the starred ones, as one table with one claim; the curves are those of document 02, wish 3.
use Rattle.std.specs.Prelude.{◌≡◌, List, [], ◌∷◌, ◌++◌, map, ℕ, length, replicate}
use Rattle.pixel.specs.Move.{intensity, moved}
use Rattle.pixel.specs.declared.Pixel.{Pixel}
use Rattle.pixel.specs.declared.Method.{Method}
use Rattle.pixel.specs.declared.Method.TheVariants.{NaikMurthy, YangLee}
use Rattle.curve.specs.Curve.{tone_curve}
use Rattle.curve.specs.declared.Choice.{Choice}
use Rattle.curve.specs.declared.Choice.TheVariants.{Cube, Equalised}
use Rattle.measuring.specs.Histogram.{count_up_to}

-- A frame is a move, by a method, of a pixel, to a target, with the pixel that it gives; or a pixel with its intensity; or the curve,
-- by a choice, of any pixels of these intensities, with its 766 entries.
pub data Frame : Type 0 where
  move : Method → Pixel → ℕ → Pixel → Frame
  has_intensity : Pixel → ℕ → Frame
  curve : Choice → (intensities entries : List ℕ) → Frame

-- What a frame says.
abbrev pub Holds : Frame → Type 0
Holds (move m p f q) = moved m p f ≡ q
Holds (has_intensity p s) = intensity p ≡ s
Holds (curve c intensities entries) =
    (ps : List Pixel) → map intensity ps ≡ intensities → tone_curve c (length ps) (count_up_to ps) ≡ entries

-- Every frame of a list holds.
abbrev pub AllHold : List Frame → Type 0
AllHold [] = Unit {0}
AllHold (x ∷ xs) = Holds x × AllHold xs

-- A pixel by its samples.
abbrev pub rgb : ℕ → ℕ → ℕ → Pixel
rgb r g b = record { r = r; g = g; b = b }

-- The entries of a curve that is 0 up to 299, a at 300, b from 301 to 599, c at 600, and 765 from 601.
unfoldable pub five_levels : (a b c : ℕ) → List ℕ
five_levels a b c = replicate 300 0 ++ (a ∷ replicate 299 b) ++ (c ∷ replicate 165 765)

-- The table.
unfoldable pub starred : List Frame
starred =
    -- Method 1, (100, 150, 200): target 300 gives (67, 100, 133); 600 gives (174, 200, 226).
    move NaikMurthy (rgb 100 150 200) 300 (rgb 67 100 133)
    ∷ move NaikMurthy (rgb 100 150 200) 600 (rgb 174 200 226)
    -- Method 1, (1, 2, 3), target 3: (1, 1, 2), sum 4.
    ∷ move NaikMurthy (rgb 1 2 3) 3 (rgb 1 1 2)
    ∷ has_intensity (rgb 1 1 2) 4
    -- Method 1, (254, 253, 252), target 762: (254, 254, 253), sum 761.
    ∷ move NaikMurthy (rgb 254 253 252) 762 (rgb 254 254 253)
    ∷ has_intensity (rgb 254 254 253) 761
    -- (10, 20, 30), target 120: method 2 (20, 40, 60); method 1 (31, 40, 49).
    ∷ move YangLee (rgb 10 20 30) 120 (rgb 20 40 60)
    ∷ move NaikMurthy (rgb 10 20 30) 120 (rgb 31 40 49)
    -- Method 2, (10, 20, 30), target 405: (105, 135, 165).
    ∷ move YangLee (rgb 10 20 30) 405 (rgb 105 135 165)
    -- Method 2, (245, 235, 225): target 360 gives (150, 120, 90); 645 gives (235, 215, 195).
    ∷ move YangLee (rgb 245 235 225) 360 (rgb 150 120 90)
    ∷ move YangLee (rgb 245 235 225) 645 (rgb 235 215 195)
    -- Target 255, (255, 255, 0), sum 510: (128, 128, 0) by either.
    ∷ has_intensity (rgb 255 255 0) 510
    ∷ move NaikMurthy (rgb 255 255 0) 255 (rgb 128 128 0)
    ∷ move YangLee (rgb 255 255 0) 255 (rgb 128 128 0)
    -- (255, 255, 1), sum 511: method 2 (128, 128, 0); method 1 (127, 127, 0).
    ∷ has_intensity (rgb 255 255 1) 511
    ∷ move YangLee (rgb 255 255 1) 255 (rgb 128 128 0)
    ∷ move NaikMurthy (rgb 255 255 1) 255 (rgb 127 127 0)
    -- One pixel of sum 300 and one of 600, in either order, by document 02, wish 3: the cube curve is 0 up to 299, 293 at 300, 382 from
    -- 301 to 599, 472 at 600, 765 from 601; equalised, 191, 383 and 574 in place of 293, 382 and 472.
    ∷ curve Cube (300 ∷ 600 ∷ []) (five_levels 293 382 472)
    ∷ curve Cube (600 ∷ 300 ∷ []) (five_levels 293 382 472)
    ∷ curve Equalised (300 ∷ 600 ∷ []) (five_levels 191 383 574)
    ∷ curve Equalised (600 ∷ 300 ∷ []) (five_levels 191 383 574)
    ∷ []

-- Claim: every starred frame holds. Proved: proofs/Starred.antt, `starred_frames_hold`.
abbrev pub StarredFramesHold : Type 0
StarredFramesHold = AllHold starred
