-- The number of each refusal (document 01, "Who can cause which refusal": "A refusal hands back its number").
use Rattle.std.specs.Prelude.{◌≡◌, ℕ, ◌<◌, Result, Ok, Err}
use Rattle.refusal.specs.declared.Refusal.{Refusal}
use Rattle.refusal.specs.declared.Refusal.TheVariants.{AlreadyFixed, NotWholePixels, TooManyPixels, NoSuchChoice, NoPixel, NotFixed, NoSuchMethod, LengthsDiffer, TargetTooLarge, CurveLengthWrong, CurveRuleBroken, HeaderMalformed, OtherLargestValue, AreaOutOfRange, TooFewSamples, BytesAfterSamples, NotAStop, NotAnIntensity}

abbrev pub refusal_number : Refusal → ℕ
refusal_number AlreadyFixed = 1
refusal_number NotWholePixels = 2
refusal_number TooManyPixels = 3
refusal_number NoSuchChoice = 4
refusal_number NoPixel = 5
refusal_number NotFixed = 6
refusal_number NoSuchMethod = 7
refusal_number LengthsDiffer = 8
refusal_number TargetTooLarge = 9
refusal_number CurveLengthWrong = 10
refusal_number CurveRuleBroken = 11
refusal_number HeaderMalformed = 12
refusal_number OtherLargestValue = 13
refusal_number AreaOutOfRange = 14
refusal_number TooFewSamples = 15
refusal_number BytesAfterSamples = 16
refusal_number NotAStop = 17
refusal_number NotAnIntensity = 18

-- What an answer tells as a number: 0 where it is accepted, else the refusal's.
abbrev pub number_in : {A : Type 0} → Result A Refusal → ℕ
number_in (Ok value) = 0
number_in (Err refusal) = refusal_number refusal

-- Claim: no refusal has the number 0, which is kept for "accepted", and no two share one. Proved: proofs/Numbers.antt,
-- `refusals_are_numbered`.
pub record RefusalsAreNumbered : Type 0 where
  pub above : (r : Refusal) → 0 < refusal_number r
  pub apart : (r s : Refusal) → refusal_number r ≡ refusal_number s → r ≡ s
