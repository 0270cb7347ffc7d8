-- The pixels that a colouring writes, and their accuracy (document 00, demand 3).
use Rattle.std.specs.Prelude.{List, [], ◌≡◌, ℕ, ◌+◌, ◌/◌, ◌≤◌, length}
use Rattle.refusal.specs.Refusal.{if_accepted}
use Rattle.rounding.specs.Fraction.{whole}
use Rattle.tables.specs.Table.{tabulate, at, ◌among◌}
use Rattle.pixel.specs.Accuracy.{factor, mission, PixelAccurate}
use Rattle.pixel.specs.Move.{Channel, sample, intensity}
use Rattle.pixel.specs.Paper.{Rounds, exact_sample}
use Rattle.pixel.specs.Strip.{pixel_at, Bytes}
use Rattle.pixel.specs.declared.Method.{Method}
use Rattle.pixel.specs.declared.Pixel.{Pixel}
use Rattle.settings.specs.Accuracy.{tolerance_under, AccurateUnder}
use Rattle.settings.specs.Setting.{SettingInRange, full, written_under, RoundedUnder}
use Rattle.settings.specs.declared.Setting.{Setting}
use Rattle.curve.specs.Curve.{IsToneCurve}
use Rattle.colouring.specs.Colouring.{coloured_strip, coloured_under}

-- A pixel written: the source pixel, what stands at its place in the destination, the dial's setting and the method by which it was coloured,
-- and the curve's entry for its intensity.
pub record Written : Type 0 where
  pub input : Pixel
  pub output : Pixel
  pub setting : Setting
  pub method : Method
  pub entry : ℕ

-- The pixel keeps the rules of demand 3 under its setting, by the factor that is "set by input sum, entry and method alone".
abbrev pub WrittenAccurate : Written → Type 0
WrittenAccurate w = AccurateUnder w.setting w.method w.entry w.input w.output

-- Demand 2 for a pixel written: it is what the setting's rule gives.
abbrev pub WrittenExact : Written → Type 0
WrittenExact w = w.output ≡ written_under w.setting w.method w.entry w.input

-- The same, in the paper's words.
abbrev pub WrittenRounded : Written → Type 0
WrittenRounded w = RoundedUnder w.setting w.method w.entry w.input w.output

-- The mission's own rules, by the factor and the entry themselves: what a full balance keeps.
abbrev pub BalanceAccurate : Written → Type 0
BalanceAccurate w =
    PixelAccurate mission (factor w.method (intensity w.input) w.entry) (whole w.entry) w.input w.output

-- Each sample is the exact value of the paper's formula, rounded once: what a full balance writes.
abbrev pub BalanceRounded : Written → Type 0
BalanceRounded w = (a : Channel) → Rounds (sample w.output a) (exact_sample w.method w.input w.entry a)

-- The pixels of a source that was coloured under a setting by a method and a curve, the destination then holding these bytes.
abbrev pub pixels_written : Setting → Method → List ℕ → List ℕ → List ℕ → List Written
pixels_written setting method curve source bytes =
    tabulate
    (λ i.
    record {
      input = pixel_at source i;
      output = pixel_at bytes i;
      setting = setting;
      method = method;
      entry = at curve (intensity (pixel_at source i));
    })
    (length source / 3)

-- The pixels that a colouring writes.
abbrev pub coloured_pixels : Setting → Method → List ℕ → List ℕ → List Written
coloured_pixels setting method curve source = pixels_written setting method curve source (coloured_under setting method curve source)

-- Claim: at amount 1 a colouring is the full balance. Proved: proofs/Strips.antt, `amount_one_is_full_balance`.
abbrev pub AmountOneIsFullBalance : Type 0
AmountOneIsFullBalance = (method : Method) (curve source : List ℕ) → coloured_under full method curve source ≡ coloured_strip method curve source

-- Claim: every pixel that a colouring writes is exact. Proved: proofs/Written.antt, `coloured_pixels_are_exact`.
abbrev pub ColouredPixelsAreExact : Type 0
ColouredPixelsAreExact =
    (setting : Setting) (method : Method) (curve source : List ℕ) (w : Written) → w among coloured_pixels setting method curve source
    → WrittenExact w

-- Claim: each sample of every pixel written by a tone curve is the paper's, as the setting has it. Proved: proofs/Written.antt,
-- `coloured_pixels_are_rounded`.
abbrev pub ColouredPixelsAreRounded : Type 0
ColouredPixelsAreRounded =
    (setting : Setting) (method : Method) (curve source : List ℕ) → SettingInRange setting → IsToneCurve curve → Bytes source
    → (w : Written) → w among coloured_pixels setting method curve source → WrittenRounded w

-- Claim: every pixel written by a tone curve keeps the rules. Proved: proofs/Written.antt, `coloured_pixels_are_accurate`.
abbrev pub ColouredPixelsAreAccurate : Type 0
ColouredPixelsAreAccurate =
    (setting : Setting) (method : Method) (curve source : List ℕ) → SettingInRange setting → IsToneCurve curve → Bytes source
    → (w : Written) → w among coloured_pixels setting method curve source → WrittenAccurate w

-- Of two pixels, the one whose input intensity is no smaller has an intensity at most n below the other's.
abbrev pub AtMostBelow : ℕ → Written → Written → Type 0
AtMostBelow n v w = intensity v.input ≤ intensity w.input → intensity v.output ≤ intensity w.output + n

-- Demand 3's: at most two below.
abbrev pub AtMostTwoBelow : Written → Written → Type 0
AtMostTwoBelow = AtMostBelow mission.below

-- "The rule on brighter and darker pixels now compares only pixels coloured under one command with one amount or held value": at most two
-- below, under a mix at most five, at amount 1 two.
abbrev pub KeepOrder : Written → Written → Type 0
KeepOrder v w = v.setting ≡ w.setting → AtMostBelow (tolerance_under v.setting).below v w

-- Claim: any two pixels written by one tone curve keep that order, in whichever colourings and by whichever methods.
-- Proved: proofs/Written.antt, `one_curve_keeps_order`.
abbrev pub OneCurveKeepsOrder : Type 0
OneCurveKeepsOrder =
    (setting setting' : Setting) (m n : Method) (curve source other : List ℕ) → SettingInRange setting → SettingInRange setting'
    → IsToneCurve curve → Bytes source → Bytes other
    → (v w : Written) → v among coloured_pixels setting m curve source → w among coloured_pixels setting' n curve other → KeepOrder v w

-- A colouring that was answered: its number, the dial's setting, the method and the curve, the source, and what the destination held before
-- and after.
pub record Colouring : Type 0 where
  pub number : ℕ
  pub setting : Setting
  pub method : Method
  pub curve : List ℕ
  pub source : List ℕ
  pub before : List ℕ
  pub after : List ℕ

-- The pixels that it wrote: those of an accepted one, each with the curve's entry for its intensity. A refused one writes none.
abbrev pub written_by : Colouring → List Written
written_by c = if_accepted c.number (pixels_written c.setting c.method c.curve c.source c.after) []

-- What holds of every colouring, from a shot or by the host.
pub record ColouringAccurate (c : Colouring) : Type 0 where
  -- it leaves the destination as long as it was, and a refused one leaves every byte of it
  pub size : length c.after ≡ length c.before
  pub untouched : (c.number ≡ 0 → ⊥) → c.after ≡ c.before
  -- every pixel written is what the setting's rule gives, and so the paper's, rounded once: c' under a mix, a held move (demand 2)
  pub exact : (w : Written) → w among written_by c → WrittenExact w
  pub rounded : (w : Written) → w among written_by c → WrittenRounded w
  -- "every pixel written keeps four rules", under a mix, hold or off those of document 02, wish 1
  pub rules : (w : Written) → w among written_by c → WrittenAccurate w
