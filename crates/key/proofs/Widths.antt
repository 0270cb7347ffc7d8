-- A moved pixel keeps the widths of a key: all but the half step follow from the rules of demand 3.
use Prim.Native.Nat.{ℕ}
use Rattle.rounding.specs.Fraction.{whole}
use Rattle.pixel.specs.Accuracy.{factor, mission, PixelAccurate}
use Rattle.pixel.specs.Move.{intensity, moved}
use Rattle.pixel.specs.Paper.{SamplesWithinHalf}
use Rattle.pixel.specs.declared.Method.{Method}
use Rattle.pixel.specs.declared.Pixel.{Pixel}
use Rattle.pixel.proofs.Accurate.{moves_are_accurate}
use Rattle.pixel.proofs.Paper.{moves_are_within_half}
use Rattle.settings.proofs.Accurate.{held_accurate}
use Rattle.key.specs.Widths.{RulesKeepWidths, BalanceWidths, MovesKeepHue, MovesKeepWidths}
use Rattle.key.proofs.Chroma.{grey_stays, keeps_chroma}
use Rattle.key.proofs.Hue.{differences_keep_hue}

pub rules_keep_widths : RulesKeepWidths
rules_keep_widths t k target p q accurate =
    let d = accurate.channels in
    record {
      hue_width = differences_keep_hue t.steps k p q d;
      chroma_width = keeps_chroma t.steps k p q d;
      intensity_width = accurate.sum;
      grey = grey_stays t.steps k p q d;
    }

-- a pixel that keeps the mission's rules, and whose samples are within half a step, keeps the widths of the full balance
pub balance_widths : (m : Method) (f : ℕ) (p q : Pixel) → PixelAccurate mission (factor m (intensity p) f) (whole f) p q
    → SamplesWithinHalf m f p q → BalanceWidths m f p q
balance_widths m f p q accurate half = record { widths = rules_keep_widths mission _ _ p q accurate; samples = half }

pub moves_keep_widths : MovesKeepWidths
moves_keep_widths m p f bytes le ends =
    balance_widths m f p (moved m p f) (moves_are_accurate m p f bytes le ends) (moves_are_within_half m p f bytes le)

pub moves_keep_hue : MovesKeepHue
moves_keep_hue m p f bytes le = differences_keep_hue 1 _ p (moved m p f) (held_accurate f le m p f bytes).channels
