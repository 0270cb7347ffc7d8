-- What a colouring writes for a pixel under each setting of the strength dial (document 02, wish 1).
use Rattle.std.specs.Prelude.{◌≡◌, ℕ, ◌+◌, ◌-◌, ◌*◌, ◌/◌, ◌≤◌}
use Rattle.pixel.specs.Move.{Channel, sample, InRange, moved}
use Rattle.pixel.specs.Paper.{Rounds, exact_sample}
use Rattle.pixel.specs.declared.Method.{Method}
use Rattle.pixel.specs.declared.Pixel.{Pixel}
use Rattle.settings.specs.declared.Setting.{Setting}
use Rattle.settings.specs.declared.Setting.TheVariants.{Off, Mix, Hold}

-- "k from 0 to 256", and "a whole intensity 0 to 765".
abbrev pub SettingInRange : Setting → Type 0
SettingInRange Off = Unit {0}
SettingInRange (Mix k) = k ≤ 256
SettingInRange (Hold v) = v ≤ 765

-- Mix at amount 1 is the full balance.
abbrev pub full : Setting
full = Mix 256

-- "Mix writes the floor of (c × (256 − k) + c' × k + 128) / 256 for source c and full balance c'."
unfoldable pub mixed : ℕ → ℕ → ℕ → ℕ
mixed k c c' = (c * (256 - k) + c' * k + 128) / 256

-- Each sample of p mixed with that of its full balance q.
abbrev pub mixed_pixel : ℕ → Pixel → Pixel → Pixel
mixed_pixel k p q = record { r = mixed k p.r q.r; g = mixed k p.g q.g; b = mixed k p.b q.b }

-- What is written for the pixel p, where f is the curve's entry for its intensity.
abbrev pub written_under : Setting → Method → ℕ → Pixel → Pixel
-- "Off copies."
written_under Off m f p = p
written_under (Mix k) m f p = mixed_pixel k p (moved m p f)
-- "Hold takes a whole intensity 0 to 765 and uses it as the target in place of every entry; black and white pixels still stay."
written_under (Hold v) m f p = moved m p v

-- Claim: at amount 1 the moved pixel itself is written. Proved: proofs/Mixing.antt, `amount_one_moves`.
abbrev pub AmountOneMoves : Type 0
AmountOneMoves = (m : Method) (p : Pixel) (f : ℕ) → written_under full m f p ≡ moved m p f

-- A pixel q that is mixed from p and a balance; each sample of the balance is the exact value of the paper's formula, rounded once.
pub record MixRounded (k : ℕ) (m : Method) (f : ℕ) (p q : Pixel) : Type 0 where
  pub balance : Pixel
  pub rounded : (a : Channel) → Rounds (sample balance a) (exact_sample m p f a)
  pub floor : (a : Channel) → sample q a ≡ (sample p a * (256 - k) + sample balance a * k + 128) / 256
  -- at amount 1 the sample written is that value itself
  pub at_one : k ≡ 256 → (a : Channel) → Rounds (sample q a) (exact_sample m p f a)

-- "Demand 2 then speaks of c' and of held moves; mix and off follow the rules here."
abbrev pub RoundedUnder : Setting → Method → ℕ → Pixel → Pixel → Type 0
RoundedUnder Off m f p q = q ≡ p
RoundedUnder (Mix k) m f p q = MixRounded k m f p q
RoundedUnder (Hold v) m f p q = (a : Channel) → Rounds (sample q a) (exact_sample m p v a)

-- Claim: what is written under a setting is rounded so. Proved: proofs/Rounded.antt, `settings_round_the_paper`.
abbrev pub SettingsRoundThePaper : Type 0
SettingsRoundThePaper =
    (setting : Setting) (m : Method) (p : Pixel) (f : ℕ) → SettingInRange setting → InRange p → f ≤ 765
    → RoundedUnder setting m f p (written_under setting m f p)
