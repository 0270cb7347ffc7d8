-- The pixels that a shot holds: its counts, their number and its curve are theirs.
use mathlib.Core.Path.{◌≡◌, refl, sym, ap, subst, ◌∙◌}
use mathlib.Core.Bool.{true, false≢true}
use mathlib.Core.List.Memᴰ
use mathlib.Core.List.{List, [], ◌++◌}
use mathlib.Core.Logic.{⊎_elim}
use Prim.Native.Nat.{ℕ, ◌+◌, ◌≤◌, ◌<◌}
use native.Mathlib.Omega.{arith}
use lib.Dec.{eqb}
use lib.ListN.{length, length-append, length-replicate, get_or-replicate}
use Rattle.refusal.proofs.Laws.{either_leaves}
use Rattle.tables.specs.Table.{at, ◌among◌}
use Rattle.tables.proofs.Laws.{length_tabulate, at_tabulate}
use Rattle.pixel.specs.Strip.{pixels_of, Bytes}
use Rattle.pixel.specs.declared.Pixel.{Pixel}
use Rattle.pixel.proofs.Strips.{length_pixels, pixels_in_range, intensity_in_range}
use Rattle.curve.specs.Choices.{choice_of}
use Rattle.curve.specs.Curve.{tone_curve, curve_of, IsToneCurve}
use Rattle.curve.proofs.Curve.{curves_are_tone_curves, tone_curve_same}
use Rattle.measuring.specs.Histogram.{pixel_limit, pixels_in, count_of, count_up_to, with_pixels, cumulative, Counted}
use Rattle.measuring.proofs.Counts.{count_append}
use Rattle.measuring.proofs.Cumulative.{tallies_give_h, h_is_cumulative}
use Rattle.shot.specs.Reachable.{Reachable, Reachable.by_opening, Reachable.by_measuring, Reachable.by_fixing}
use Rattle.shot.specs.Shot.{opened, with_strip, measured, with_curve, fixed_with}
use Rattle.shot.specs.declared.Shot.{Shot}
use Rattle.shot.proofs.Passed.{MeasuringAccepted, measure_passed, fix_passed}

pub record Holds (x : Shot) (ps : List Pixel) : Type 0 where
  pub size : length x.counts ≡ 766
  pub counts : (s : ℕ) → s ≤ 765 → at x.counts s ≡ count_of ps s
  pub pixels : x.pixels ≡ length ps
  pub limit : x.pixels ≤ pixel_limit
  pub counted : Counted ps
  pub curve : x.fixed ≡ true → IsToneCurve x.curve

-- the counts up to an intensity add up to the pixels of at most it
pub up_to_of_held : {x : Shot} {ps : List Pixel} → Holds x ps → (s : ℕ) → s ≤ 765 → cumulative x.counts s ≡ count_up_to ps s
up_to_of_held {x} {ps} h = tallies_give_h x.counts ps h.counts

-- and at 765 that is all of them
pub last_of_held : {x : Shot} {ps : List Pixel} → Holds x ps → count_up_to ps 765 ≡ x.pixels
last_of_held {x} {ps} h = (h_is_cumulative ps h.counted).last ∙ sym h.pixels

-- an opened shot holds none
pub holds_opened : Holds opened []
unfolding opened
holds_opened = record {
  size = length-replicate {A = ℕ} 766 0;
  counts = λ s h. get_or-replicate 766 s 0 0 (omega arith);
  pixels = refl;
  limit = omega arith;
  counted = λ p m. absurd (Memᴰ.not-nil m);
  curve = λ fixed. absurd (false≢true fixed);
}

-- an accepted strip's pixels join those held
pub holds_strip : {x : Shot} {ps : List Pixel} → Holds x ps → (strip : List ℕ) → Bytes strip
    → MeasuringAccepted x strip → Holds (with_strip x strip) (ps ++ pixels_of strip)
unfolding with_pixels
holds_strip {x} {ps} h strip bytes ok = record {
  size = length_tabulate (λ s. at x.counts s + count_of (pixels_of strip) s) 766;
  counts = λ s l.
      at_tabulate (λ s. at x.counts s + count_of (pixels_of strip) s) 766 s (omega arith)
      ∙ ap (λ (n : ℕ). n + count_of (pixels_of strip) s) (h.counts s l)
      ∙ sym (count_append (λ i. eqb i s) ps (pixels_of strip));
  pixels = omega (arith, h.pixels, length-append ps (pixels_of strip), length_pixels strip);
  limit = ok.room;
  counted = λ p m.
      ⊎_elim (λ (k : p among ps). h.counted p k)
      (λ (k : p among pixels_of strip). intensity_in_range p (pixels_in_range strip bytes p k))
      (Memᴰ.append_cases ps m);
  curve = h.curve;
}

-- an accepted fixing makes their curve
curve_of_held : {x : Shot} {ps : List Pixel} → Holds x ps → (choice : ℕ)
    → (with_curve x choice).curve ≡ tone_curve (choice_of choice) (length ps) (count_up_to ps)
curve_of_held {x} {ps} h choice =
    tone_curve_same (choice_of choice) x.pixels (cumulative x.counts) (count_up_to ps) (up_to_of_held h)
    ∙ ap (λ (n : ℕ). tone_curve (choice_of choice) n (count_up_to ps)) h.pixels

pub curve_of_strips : {x : Shot} (strips : List (List ℕ)) → Holds x (pixels_in strips) → (choice : ℕ)
    → (with_curve x choice).curve ≡ curve_of choice strips
unfolding curve_of
curve_of_strips strips h choice = curve_of_held h choice

-- and keeps all else
pub holds_curve : {x : Shot} {ps : List Pixel} → Holds x ps → (choice : ℕ) → 0 < x.pixels → Holds (with_curve x choice) ps
holds_curve {x} {ps} h choice positive = record {
  size = h.size;
  counts = h.counts;
  pixels = h.pixels;
  limit = h.limit;
  counted = h.counted;
  curve = λ fixed.
      subst IsToneCurve (sym (curve_of_held h choice))
      (curves_are_tone_curves (choice_of choice) (length ps) (count_up_to ps) (omega (arith, h.pixels)) (h_is_cumulative ps h.counted));
}

-- every shot that came from the calls holds some pixels
pub reachable_holds : {x : Shot} → Reachable x → (ps : List Pixel) × Holds x ps
unfolding measured fixed_with
reachable_holds by_opening = ([], holds_opened)
reachable_holds (by_measuring {x} r strip bytes) =
    let (ps, h) = reachable_holds r in
    either_leaves _ (with_strip x strip) x (λ (y : Shot). (qs : List Pixel) × Holds y qs)
    (λ e. (ps ++ pixels_of strip, holds_strip h strip bytes (measure_passed x strip e)))
    (ps, h)
reachable_holds (by_fixing {x} r choice) =
    let (ps, h) = reachable_holds r in
    either_leaves _ (with_curve x choice) x (λ (y : Shot). (qs : List Pixel) × Holds y qs)
    (λ e. (ps, holds_curve h choice (fix_passed x choice e).some))
    (ps, h)
