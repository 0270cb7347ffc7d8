-- The refusals and their numbers.
use Rattle.std.proofs.Common.{◌≡◌, ◌<◌, ℕ, zero, suc, List, [], ◌∷◌, refl, sym, ap, ◌∙◌, arith}
use Rattle.refusal.specs.Numbering.{case_of}
use Rattle.refusal.specs.Numbers.{refusal_number, RefusalsAreNumbered}
use Rattle.refusal.specs.declared.Refusal.{Refusal}
use Rattle.refusal.specs.declared.Refusal.TheVariants.{AlreadyFixed, NotWholePixels, TooManyPixels, NoSuchChoice, NoPixel, NotFixed, NoSuchMethod, LengthsDiffer, TargetTooLarge, CurveLengthWrong, CurveRuleBroken, HeaderMalformed, OtherLargestValue, AreaOutOfRange, TooFewSamples, BytesAfterSamples, NotAStop, NotAnIntensity}

-- the refusals but the first, in the order of their numbers
abbrev others : List Refusal
others =
    NotWholePixels
    ∷ TooManyPixels
    ∷ NoSuchChoice
    ∷ NoPixel
    ∷ NotFixed
    ∷ NoSuchMethod
    ∷ LengthsDiffer
    ∷ TargetTooLarge
    ∷ CurveLengthWrong
    ∷ CurveRuleBroken
    ∷ HeaderMalformed
    ∷ OtherLargestValue
    ∷ AreaOutOfRange
    ∷ TooFewSamples
    ∷ BytesAfterSamples
    ∷ NotAStop
    ∷ NotAnIntensity
    ∷ []

-- the refusal of a number
abbrev by_number : ℕ → Refusal
by_number = case_of refusal_number AlreadyFixed others

-- is the one with this number
back : (r : Refusal) → by_number (refusal_number r) ≡ r
back AlreadyFixed = refl
back NotWholePixels = refl
back TooManyPixels = refl
back NoSuchChoice = refl
back NoPixel = refl
back NotFixed = refl
back NoSuchMethod = refl
back LengthsDiffer = refl
back TargetTooLarge = refl
back CurveLengthWrong = refl
back CurveRuleBroken = refl
back HeaderMalformed = refl
back OtherLargestValue = refl
back AreaOutOfRange = refl
back TooFewSamples = refl
back BytesAfterSamples = refl
back NotAStop = refl
back NotAnIntensity = refl

-- 0 is no refusal's number: `by_number` takes it to the last one, whose number is another
above : (r : Refusal) → 0 < refusal_number r
above r = go (refusal_number r) refl
  where
    go : (n : ℕ) → refusal_number r ≡ n → 0 < n
    go zero e = absurd (omega (arith, e, ap refusal_number (sym (back r) ∙ ap by_number e)))
    go (suc n) e = omega arith

apart : (r s : Refusal) → refusal_number r ≡ refusal_number s → r ≡ s
apart r s e = sym (back r) ∙ ap by_number e ∙ back s

pub refusals_are_numbered : RefusalsAreNumbered
refusals_are_numbered = record { above = above; apart = apart }
