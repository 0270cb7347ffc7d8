-- The pixels that a colouring by a tone curve writes.
use mathlib.Core.Path.{◌≡◌, refl, ap, ◌∙◌, subst, sym}
use mathlib.Core.Bool.{Bool, true, false, cond}
use mathlib.Core.List.Memᴰ
use mathlib.Core.List.{List, []}
use Prim.Native.Nat.{ℕ, ◌/◌, ◌<◌, ◌≤◌}
use native.Mathlib.Omega.{arith}
use borrow.Author.Tests.{eqb-true}
use lib.Dec.{eqb}
use lib.ListN.{length}
use Rattle.refusal.specs.Refusal.{if_accepted}
use Rattle.refusal.proofs.Laws.{accepted_leaves, refused_leaves, either_leaves}
use Rattle.tables.specs.Table.{at, ◌among◌}
use Rattle.tables.proofs.Laws.{tabulate_member}
use Rattle.pixel.specs.Accuracy.{OwnEnds}
use Rattle.pixel.specs.Move.{intensity}
use Rattle.pixel.specs.Paper.{Rounds, exact_sample}
use Rattle.pixel.specs.Strip.{is_whole, pixel_at, Bytes}
use Rattle.pixel.specs.declared.Method.{Method}
use Rattle.pixel.specs.declared.Pixel.{Pixel}
use Rattle.pixel.proofs.Strips.{pixel_in_range, intensity_in_range}
use Rattle.settings.specs.Accuracy.{tolerance_under, AccurateUnder}
use Rattle.settings.specs.Setting.{SettingInRange, full, written_under, RoundedUnder}
use Rattle.settings.specs.declared.Setting.{Setting}
use Rattle.settings.proofs.Accurate.{settings_are_accurate}
use Rattle.settings.proofs.Order.{settings_keep_order}
use Rattle.settings.proofs.Rounded.{settings_round_the_paper}
use Rattle.curve.specs.Curve.{IsToneCurve}
use Rattle.colouring.specs.Colouring.{coloured_under}
use Rattle.colouring.specs.Written.{Written, WrittenAccurate, WrittenExact, WrittenRounded, BalanceAccurate, BalanceRounded, AtMostBelow, AtMostTwoBelow, pixels_written, written_by, Colouring, ColouringAccurate, KeepOrder, coloured_pixels, ColouredPixelsAreExact, ColouredPixelsAreRounded, ColouredPixelsAreAccurate, OneCurveKeepsOrder}
use Rattle.colouring.proofs.EachPixel.{each_pixel_at, each_pixel_length}

-- a coloured strip is as long as its source
pub coloured_length : (setting : Setting) (method : Method) (curve source : List ℕ) → is_whole (length source) ≡ true
    → length (coloured_under setting method curve source) ≡ length source
unfolding coloured_under
coloured_length setting method curve source whole =
    each_pixel_length (λ p. written_under setting method (at curve (intensity p)) p) source whole

-- each place of a coloured strip holds what the setting's rule gives for the source's pixel
coloured_at : (setting : Setting) (method : Method) (curve source : List ℕ) (i : ℕ) → i < length source / 3
    → pixel_at (coloured_under setting method curve source) i
    ≡ written_under setting method (at curve (intensity (pixel_at source i))) (pixel_at source i)
unfolding coloured_under
coloured_at setting method curve source i h = each_pixel_at (λ p. written_under setting method (at curve (intensity p)) p) source i h

pub coloured_pixels_are_exact : ColouredPixelsAreExact
coloured_pixels_are_exact setting method curve source w m =
    let (i, inside, e) = tabulate_member _ (length source / 3) w m in
    subst WrittenExact (sym e) (coloured_at setting method curve source i inside)

-- a member of what an accepted call has written shows that it was accepted, by the number 0
pub in_accepted : {A : Type 0} (number : ℕ) (new : List A) (a : A) → a among if_accepted number new [] → (number ≡ 0) × (a among new)
in_accepted {A} number new a m = go (eqb number 0) (eqb-true number 0) m
  where
    go : (t : Bool) → (t ≡ true → number ≡ 0) → a among cond t new [] → (number ≡ 0) × (a among new)
    go true zero m = (zero refl, m)
    go false zero m = absurd (Memᴰ.not-nil m)

-- a tone curve's entry for black is 0, and its entry for white is 765
own_ends : (curve : List ℕ) → IsToneCurve curve → (p : Pixel) → OwnEnds p (at curve (intensity p))
own_ends curve tone p =
    record { black = λ (e : intensity p ≡ 0). ap (at curve) e ∙ tone.black; white = λ (e : intensity p ≡ 765). ap (at curve) e ∙ tone.white }

-- what is known of a pixel that was written by the curve under a setting
record ByCurve (setting : Setting) (curve : List ℕ) (w : Written) : Type 0 where
  rounded : WrittenRounded w
  rules : WrittenAccurate w
  under : w.setting ≡ setting
  entry : w.entry ≡ at curve (intensity w.input)
  range : intensity w.input ≤ 765

-- that holds of each pixel that a colouring by a tone curve writes
by_curve : (setting : Setting) (method : Method) (curve source : List ℕ) → SettingInRange setting → IsToneCurve curve → Bytes source
    → (w : Written) → w among coloured_pixels setting method curve source → ByCurve setting curve w
by_curve setting method curve source ok tone bytes w m =
    let (i, inside, e) = tabulate_member _ (length source / 3) w m in
    let p = pixel_at source i in
    let f = at curve (intensity p) in
    let in-range = pixel_in_range source bytes i in
    let small = intensity_in_range p in-range in
    let target = tone.range (intensity p) small in
    let is = sym (coloured_at setting method curve source i inside) in
    subst (ByCurve setting curve) (sym e)
    (record {
      rounded = subst (RoundedUnder setting method f p) is (settings_round_the_paper setting method p f ok in-range target);
      rules = subst (AccurateUnder setting method f p) is (settings_are_accurate setting method p f ok in-range target (own_ends curve tone p));
      under = refl;
      entry = refl;
      range = small;
    })

pub coloured_pixels_are_rounded : ColouredPixelsAreRounded
coloured_pixels_are_rounded setting method curve source ok tone bytes w m = (by_curve setting method curve source ok tone bytes w m).rounded

pub coloured_pixels_are_accurate : ColouredPixelsAreAccurate
coloured_pixels_are_accurate setting method curve source ok tone bytes w m = (by_curve setting method curve source ok tone bytes w m).rules

pub one_curve_keeps_order : OneCurveKeepsOrder
one_curve_keeps_order setting setting' m n curve source other ok ok' tone bytes bytes' v w mv mw same le =
    let first = by_curve setting m curve source ok tone bytes v mv in
    let second = by_curve setting' n curve other ok' tone bytes' w mw in
    let rises : v.entry ≤ w.entry =
    omega (
      arith,
      tone.never_falls (intensity v.input) (intensity w.input) le second.range,
      first.entry,
      second.entry,
    ) in
    settings_keep_order v.setting v.method w.method v.input w.input v.output w.output v.entry w.entry
    (subst SettingInRange (sym first.under) ok) le second.range rises first.rules
    (subst (λ (s : Setting). AccurateUnder s w.method w.entry w.input w.output) (sym same) second.rules)

-- What a colouring leaves, whatever checks gave its number: an accepted one has passed the checks of lengths and of the dial, has a tone curve
-- where there is a pixel to write, and leaves the coloured source; a refused one leaves what was there.
pub record Performed (c : Colouring) : Type 0 where
  pub left : c.after ≡ if_accepted c.number (coloured_under c.setting c.method c.curve c.source) c.before
  pub setting : c.number ≡ 0 → SettingInRange c.setting
  pub whole : c.number ≡ 0 → is_whole (length c.source) ≡ true
  pub same : c.number ≡ 0 → length c.before ≡ length c.source
  pub tone : c.number ≡ 0 → 0 < length c.source → IsToneCurve c.curve
  pub bytes : Bytes c.source

-- a pixel that was written shows that the colouring was accepted and had a pixel to write, and is one of the coloured source
pub record WrittenIn (c : Colouring) (w : Written) : Type 0 where
  pub accepted : c.number ≡ 0
  pub some : 0 < length c.source
  pub member : w among coloured_pixels c.setting c.method c.curve c.source

module _ (c : Colouring) (h : Performed c) where
  -- the source, coloured
  abbrev made : List ℕ
  made = coloured_under c.setting c.method c.curve c.source

  pub written_in : (w : Written) → w among written_by c → WrittenIn c w
  written_in w m =
      let member = in_accepted c.number _ w m in
      let left = h.left ∙ accepted_leaves c.number made c.before member.0 in
      let (i, inside, _) = tabulate_member _ (length c.source / 3) w member.1 in
      record {
        accepted = member.0;
        some = omega arith;
        member = subst (λ (bytes : List ℕ). w among pixels_written c.setting c.method c.curve c.source bytes) left member.1;
      }

  by_tone_curve : (w : Written) → w among written_by c → ByCurve c.setting c.curve w
  by_tone_curve w m =
      let is = written_in w m in
      by_curve c.setting c.method c.curve c.source (h.setting is.accepted) (h.tone is.accepted is.some) h.bytes w is.member

  pub colouring_accurate : ColouringAccurate c
  colouring_accurate =
      record {
        size =
            subst (λ (bytes : List ℕ). length bytes ≡ length c.before) (sym h.left)
            (either_leaves c.number made c.before (λ (bytes : List ℕ). length bytes ≡ length c.before)
            (λ e. coloured_length c.setting c.method c.curve c.source (h.whole e) ∙ sym (h.same e))
            refl);
        untouched = λ refused. h.left ∙ refused_leaves c.number made c.before refused;
        exact = λ w m. coloured_pixels_are_exact c.setting c.method c.curve c.source w (written_in w m).member;
        rounded = λ w m. (by_tone_curve w m).rounded;
        rules = λ w m. (by_tone_curve w m).rules;
      }

-- the order of two pixels that were written in colourings by one curve
pub colourings_keep_order : (c d : Colouring) → Performed c → Performed d → c.curve ≡ d.curve
    → (v w : Written) → v among written_by c → w among written_by d → KeepOrder v w
colourings_keep_order c d h k same v w mv mw =
    let first = written_in c h v mv in
    let second = written_in d k w mw in
    one_curve_keeps_order c.setting d.setting c.method d.method c.curve c.source d.source (h.setting first.accepted)
    (k.setting second.accepted) (h.tone first.accepted first.some) h.bytes k.bytes v w first.member
    (subst (λ (curve : List ℕ). w among coloured_pixels d.setting d.method curve d.source) (sym same) second.member)

-- what a colouring at amount 1 writes is the paper's, rounded once, and keeps the mission's own rules
pub record Balanced (w : Written) : Type 0 where
  pub setting : w.setting ≡ full
  pub rounded : BalanceRounded w
  pub rules : BalanceAccurate w

-- a pixel written under amount 1
balanced_by : (curve : List ℕ) (w : Written) → ByCurve full curve w → Balanced w
balanced_by curve w by =
    let accurate = subst (λ (s : Setting). AccurateUnder s w.method w.entry w.input w.output) by.under by.rules in
    let mixed = subst (λ (s : Setting). RoundedUnder s w.method w.entry w.input w.output) by.under by.rounded in
    record {
      setting = by.under;
      rounded = λ a. subst (λ (n : ℕ). Rounds n (exact_sample w.method w.input w.entry a)) (omega (arith, mixed.floor a)) (mixed.rounded a);
      rules = accurate.beside refl;
    }

pub coloured_pixels_are_balanced : (method : Method) (curve source : List ℕ) → IsToneCurve curve → Bytes source
    → (w : Written) → w among coloured_pixels full method curve source → Balanced w
coloured_pixels_are_balanced method curve source tone bytes w m =
    balanced_by curve w (by_curve full method curve source (omega arith) tone bytes w m)

pub full_balanced : (c : Colouring) → Performed c → c.setting ≡ full → (w : Written) → w among written_by c → Balanced w
full_balanced c h is w m = balanced_by c.curve w (subst (λ (s : Setting). ByCurve s c.curve w) is (by_tone_curve c h w m))

pub balances_keep_order : {v w : Written} → Balanced v → Balanced w → KeepOrder v w → AtMostTwoBelow v w
balances_keep_order {v} {w} b b' keep =
    subst (λ (s : Setting). AtMostBelow (tolerance_under s).below v w) b.setting (keep (b.setting ∙ sym b'.setting))
