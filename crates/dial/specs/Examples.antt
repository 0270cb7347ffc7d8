-- Commands of the dial, and what they are decoded to: the customer's sentences and their boundaries, in figures.
use Rattle.std.specs.Prelude.{◌≡◌, ℕ, ◌+◌, ◌-◌, ◌*◌, ◌^◌, true, false, List, [], ◌∷◌, map, Float, Ok, Err}
use Rattle.std.specs.Float.{nan, inf, binary32}
use Rattle.std.specs.Float.Ieee.{round}
use Rattle.settings.specs.declared.Setting.TheVariants as S
use Rattle.refusal.specs.declared.Refusal.TheVariants.{NotAStop, NotAnIntensity}
use Rattle.dial.specs.Dial.{Decoded, decoded, full_balance}
use Rattle.dial.specs.declared.Dial.{Dial}
use Rattle.dial.specs.declared.Dial.TheVariants.{Off, Mix, Hold}

-- A command, and what it is decoded to.
pub record Example : Type 0 where
  pub dial : Dial
  pub outcome : Decoded

infix 40 ◌gives◌
abbrev pub ◌gives◌ : Dial → Decoded → Example
dial gives outcome = record { dial = dial; outcome = outcome }

-- The 32-bit float num / den, and the same with a minus sign; each that stands below is one exactly.
abbrev pub plus : ℕ → ℕ → Float
plus num den = round binary32 false num den

abbrev pub minus : ℕ → ℕ → Float
minus num den = round binary32 true num den

unfoldable pub examples : List Example
examples =
    (Off gives Ok S.Off)
    -- "exactly k/256, k from 0 to 256"
    ∷ (Mix (plus 0 1) gives Ok (S.Mix 0))
    ∷ (Mix (plus 1 256) gives Ok (S.Mix 1))
    ∷ (Mix (plus 1 2) gives Ok (S.Mix 128))
    ∷ (Mix (plus 255 256) gives Ok (S.Mix 255))
    ∷ (Mix (plus 1 1) gives Ok (S.Mix 256))
    ∷ (full_balance gives Ok (S.Mix 256))
    -- "minus zero is zero in both"
    ∷ (Mix (minus 0 1) gives Ok (S.Mix 0))
    ∷ (Hold (minus 0 1) gives Ok (S.Hold 0))
    -- between two stops: half a step above 0, one unit of the last digit beside 1/2 and below 1, the least float above 0
    ∷ (Mix (plus 1 512) gives Err NotAStop)
    ∷ (Mix (plus (2 ^ 23 + 1) (2 ^ 24)) gives Err NotAStop)
    ∷ (Mix (plus (2 ^ 24 - 1) (2 ^ 25)) gives Err NotAStop)
    ∷ (Mix (plus (2 ^ 24 - 1) (2 ^ 24)) gives Err NotAStop)
    ∷ (Mix (plus 1 (2 ^ 149)) gives Err NotAStop)
    -- outside the range, by one unit of the last digit too, and no number
    ∷ (Mix (plus (2 ^ 23 + 1) (2 ^ 23)) gives Err NotAStop)
    ∷ (Mix (plus 257 256) gives Err NotAStop)
    ∷ (Mix (minus 1 256) gives Err NotAStop)
    ∷ (Mix (inf false) gives Err NotAStop)
    ∷ (Mix (inf true) gives Err NotAStop)
    ∷ (Mix nan gives Err NotAStop)
    -- "a whole intensity 0 to 765"
    ∷ (Hold (plus 0 1) gives Ok (S.Hold 0))
    ∷ (Hold (plus 1 1) gives Ok (S.Hold 1))
    ∷ (Hold (plus 764 1) gives Ok (S.Hold 764))
    ∷ (Hold (plus 765 1) gives Ok (S.Hold 765))
    -- between two whole numbers: 1/2, one unit of the last digit below 765, the least float above 0
    ∷ (Hold (plus 1 2) gives Err NotAnIntensity)
    ∷ (Hold (plus (765 * 2 ^ 14 - 1) (2 ^ 14)) gives Err NotAnIntensity)
    ∷ (Hold (plus 1 (2 ^ 149)) gives Err NotAnIntensity)
    -- outside the range, by one unit of the last digit too, and no number
    ∷ (Hold (plus (765 * 2 ^ 14 + 1) (2 ^ 14)) gives Err NotAnIntensity)
    ∷ (Hold (plus 766 1) gives Err NotAnIntensity)
    ∷ (Hold (minus 1 1) gives Err NotAnIntensity)
    ∷ (Hold (inf false) gives Err NotAnIntensity)
    ∷ (Hold (inf true) gives Err NotAnIntensity)
    ∷ (Hold nan gives Err NotAnIntensity)
    ∷ []

-- Claim: every example holds. Proved: proofs/Examples.antt, `examples_hold`.
abbrev pub ExamplesHold : Type 0
ExamplesHold = map (λ e. decoded e.dial) examples ≡ map (λ e. e.outcome) examples
