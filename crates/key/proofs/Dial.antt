-- The widths of a key under each command of the dial.
use mathlib.Core.Path.{◌≡◌, refl, sym, ◌∙◌, subst}
use Prim.Native.Nat.{ℕ, ◌≤◌}
use Rattle.pixel.specs.Move.{InRange, moved}
use Rattle.pixel.specs.Paper.{SamplesWithinHalf}
use Rattle.pixel.specs.declared.Method.{Method}
use Rattle.pixel.specs.declared.Pixel.{Pixel}
use Rattle.pixel.proofs.Paper.{moves_are_within_half}
use Rattle.settings.specs.Accuracy.{AccurateUnder}
use Rattle.settings.specs.Setting.{SettingInRange, mixed_pixel, written_under}
use Rattle.settings.specs.declared.Setting.{Setting}
use Rattle.settings.specs.declared.Setting.TheVariants.{Off, Mix, Hold}
use Rattle.settings.proofs.Accurate.{held_accurate}
use Rattle.settings.proofs.Mixing.{mixed_full, mixed_differences}
use Rattle.key.specs.Dial.{BesideWidths, WidthsUnder, DialKeepsHue}
use Rattle.key.proofs.Hue.{differences_keep_hue}
use Rattle.key.proofs.Widths.{rules_keep_widths, balance_widths, moves_keep_hue}

-- what is beside them: the half step, of a full balance and of a held move
beside_widths : (setting : Setting) (m : Method) (f : ℕ) (p q : Pixel) → SettingInRange setting → InRange p → f ≤ 765
    → q ≡ written_under setting m f p → AccurateUnder setting m f p q → BesideWidths setting m f p q
beside_widths Off m f p q ok bytes le is accurate = is
beside_widths (Mix k) m f p q ok bytes le is accurate =
    λ e.
    let balance : q ≡ moved m p f = is ∙ mixed_full k p (moved m p f) e in
    balance_widths m f p q (accurate.beside e) (subst (SamplesWithinHalf m f p) (sym balance) (moves_are_within_half m p f bytes le))
beside_widths (Hold v) m f p q ok bytes le is accurate = subst (SamplesWithinHalf m v p) (sym is) (moves_are_within_half m p v bytes ok)

-- an exact pixel that keeps the rules of its setting keeps the widths of it
pub widths_under : (setting : Setting) (m : Method) (f : ℕ) (p q : Pixel) → SettingInRange setting → InRange p → f ≤ 765
    → q ≡ written_under setting m f p → AccurateUnder setting m f p q → WidthsUnder setting m f p q
widths_under setting m f p q ok bytes le is accurate = record {
  widths = rules_keep_widths _ _ _ p q accurate.rules;
  beside = beside_widths setting m f p q ok bytes le is accurate;
}

pub dial_keeps_hue : DialKeepsHue
dial_keeps_hue m p f bytes le =
    let balance = (held_accurate f le m p f bytes).channels in
    record {
      off = refl;
      mix = λ k ok. differences_keep_hue 2 _ p (mixed_pixel k p (moved m p f)) (mixed_differences k ok _ p (moved m p f) balance);
      at_one = rw (mixed_full 256 p (moved m p f) refl) (moves_keep_hue m p f bytes le);
      hold = λ v ok. moves_keep_hue m p v bytes ok;
    }
