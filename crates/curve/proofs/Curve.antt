-- Laws of the tone curve: of the shares, of both choices' entries, of the ends, and of the whole curve.
use mathlib.Core.Path.{◌≡◌, refl, sym, ap, ap₂, subst, ◌∙◌}
use mathlib.Core.Logic.{⊎_elim}
use mathlib.Core.List.{List}
use Prim.Native.Nat.{ℕ, zero, suc, ◌*◌, ◌^◌, ◌≤◌, ◌<◌, zero-le}
use native.Mathlib.Nat.{le_refl, le_trans, le_of_eq, le_of_lt, le_of_suc-le-suc, eq-or-lt_of_le, mul-le-mul, mul-le-mul_left}
use native.Mathlib.Omega.{arith}
use lib.ListN.{length, set, length-set}
use lib.Seq.{get_or-set_same, get_or-set_other}
use borrow.Author.Tests.{ne_eqb}
use Rattle.rounding.proofs.Laws.{near_le, near_mono}
use Rattle.tables.specs.Table.{tabulate, at}
use Rattle.tables.proofs.Cases.{either}
use Rattle.tables.proofs.Laws.{length_tabulate, at_tabulate, at_table, is_tabulate, tabulate_same}
use Rattle.targets.specs.Cube.{G}
use Rattle.targets.proofs.Laws.{targets_are_right}
use Rattle.measuring.specs.Histogram.{NonDecreasing, IsCumulative}
use Rattle.curve.specs.Curve.{share_count, full_count, previous, share_at, cube_entry, equalised_entry, by_choice, with_ends, entry, tone_curve, CurvesAreToneCurves}
use Rattle.curve.specs.Inner.{SharesFit, AimsFit}
use Rattle.curve.specs.Nearest.{Nearest, nearest_place}
use Rattle.curve.specs.declared.Choice.{Choice}
use Rattle.curve.specs.declared.Choice.TheVariants.{Cube, Equalised}
use Rattle.curve.proofs.Nearest.{nearest_mono, nearest_is, nearest_same}

-- What all other laws lean on of the share count and the full count: these four, and no other law, unfold them.
-- a share count rises with both its counts
share_rises : {below below' upto upto' : ℕ} → below ≤ below' → upto ≤ upto' → share_count below upto ≤ share_count below' upto'
unfolding share_count
share_rises h l = omega arith

-- it is at most the full count
share_le_full : {below upto n : ℕ} → below ≤ n → upto ≤ n → share_count below upto ≤ full_count n
unfolding share_count full_count
share_le_full h l = omega arith

-- the full count is positive
full_positive : {n : ℕ} → 0 < n → 0 < full_count n
unfolding full_count
full_positive h = omega arith

-- and at most 2^32
pub full_le : {n : ℕ} → n ≤ 2 ^ 31 → full_count n ≤ 2 ^ 32
unfolding full_count
full_le h = omega arith

module _ {N : ℕ} {H : ℕ → ℕ} (is : IsCumulative N H) where
  -- H(s − 1) does not fall
  previous_rises : (s t : ℕ) → s ≤ t → t ≤ 765 → previous H s ≤ previous H t
  previous_rises zero t h l = zero-le
  previous_rises (suc s) zero h l = omega arith
  previous_rises (suc s) (suc t) h l = is.never_falls s t (le_of_suc-le-suc h) (omega arith)

  -- H(s) is at most N
  all_le : (s : ℕ) → s ≤ 765 → H s ≤ N
  all_le s h = omega (arith, is.never_falls s 765 h (le_refl 765), is.last)

  -- and so is H(s − 1)
  previous_le : (s : ℕ) → s ≤ 765 → previous H s ≤ N
  previous_le zero h = zero-le
  previous_le (suc s) h = all_le s (omega arith)

  -- the shares do not fall
  shares_rise : (s t : ℕ) → s ≤ t → t ≤ 765 → share_at H s ≤ share_at H t
  shares_rise s t h l = share_rises (previous_rises s t h l) (is.never_falls s t h l)

  -- none is larger than the full count
  shares_le : (s : ℕ) → s ≤ 765 → share_at H s ≤ full_count N
  shares_le s h = share_le_full (previous_le s h) (all_le s h)

-- G does not fall
G-rises : NonDecreasing G
G-rises j k h l = ⊎_elim (λ e. rw e (le_refl _)) (λ m. le_of_lt (targets_are_right.rises j k m l)) (eq-or-lt_of_le h)

-- no target is larger than G(765)
pub G-le : (k : ℕ) → k ≤ 765 → G k ≤ 99488250
G-le k h = omega (arith, G-rises k 765 h (le_refl 765), targets_are_right.at765)

-- a target times w fits into 64 bits
pub scaled_fits : (w : ℕ) (targets : List ℕ) → w ≤ 2 ^ 32 → targets ≡ tabulate G 766 → (k : ℕ) → k < 766 → w * at targets k < 2 ^ 64
scaled_fits w targets small are k h =
    omega (arith, mul-le-mul small (le_trans (le_of_eq (at_table G 766 targets are k h)) (G-le k (omega arith))))

module _ (w : ℕ) where
  -- the scaled targets do not fall
  scaled_rises : NonDecreasing (λ k. w * G k)
  scaled_rises j k h l = mul-le-mul_left w (G-rises j k h l)

  -- the cube entry is the nearest place
  pub cube_nearest : (h : ℕ) → Nearest (λ k. w * G k) 765 (G 765 * h) (cube_entry w h)
  unfolding cube_entry
  cube_nearest h = nearest_is (λ k. w * G k) 765 (G 765 * h)

  -- a larger share has no smaller cube entry
  cube_rises : {h h' : ℕ} → h ≤ h' → cube_entry w h ≤ cube_entry w h'
  cube_rises {h} {h'} l = nearest_mono scaled_rises (mul-le-mul_left (G 765) l) (cube_nearest h) (cube_nearest h')

module _ (w : ℕ) (positive : 0 < w) where
  -- a larger share has no smaller equalised entry
  equalised_rises : {h h' : ℕ} → h ≤ h' → equalised_entry w h ≤ equalised_entry w h'
  unfolding equalised_entry
  equalised_rises {h} {h'} l = near_mono w positive (765 * h) (765 * h') (mul-le-mul_left 765 l)

  -- no equalised entry is above 765
  pub equalised_le : {h : ℕ} → h ≤ w → equalised_entry w h ≤ 765
  unfolding equalised_entry
  equalised_le {h} l = near_le w positive (765 * h) 765 (mul-le-mul_left 765 l)

  -- by each choice a larger share has no smaller entry
  choice_rises : (choice : Choice) {h h' : ℕ} → h ≤ h' → by_choice choice w h ≤ by_choice choice w h'
  choice_rises Cube l = cube_rises w l
  choice_rises Equalised l = equalised_rises l

  -- and no entry is above 765
  choice_le : (choice : Choice) {h : ℕ} → h ≤ w → by_choice choice w h ≤ 765
  choice_le Cube {h} l = (cube_nearest w h).within
  choice_le Equalised l = equalised_le l

-- entry 0 is 0
ends_black : (f : ℕ → ℕ) → with_ends f 0 ≡ 0
unfolding with_ends
ends_black f = refl

-- entry 765 is 765
ends_white : (f : ℕ → ℕ) → with_ends f 765 ≡ 765
unfolding with_ends
ends_white f = refl

-- the others stay
pub ends_inner : (f : ℕ → ℕ) (s : ℕ) → 0 < s → s < 765 → with_ends f s ≡ f s
unfolding with_ends
ends_inner f s h l = simp (ne_eqb s 0 (λ e. omega arith), ne_eqb s 765 (λ e. omega arith))

-- an intensity is 0, or 765, or between them
by_ends : (P : ℕ → Type 0) (s : ℕ) → s ≤ 765 → P 0 → P 765 → (0 < s → s < 765 → P s) → P s
by_ends P s h black white inner =
    either s 0 (λ p. let e : 0 ≡ s = omega arith in subst P e black)
    (λ p. either 765 s (λ q. let e : 765 ≡ s = omega arith in subst P e white) (λ q. inner p q))

module _ (f : ℕ → ℕ) (le : (s : ℕ) → s ≤ 765 → f s ≤ 765) where
  -- with the ends set no entry is above 765
  ends_le : (s : ℕ) → s ≤ 765 → with_ends f s ≤ 765
  ends_le s h =
      by_ends (λ s. with_ends f s ≤ 765) s h (omega (arith, ends_black f)) (omega (arith, ends_white f))
      (λ p q. rw (ends_inner f s p q) (le s h))

  -- and no entry is less than the one before
  ends_rise : NonDecreasing f → NonDecreasing (with_ends f)
  ends_rise up s t h l =
      by_ends (λ s. s ≤ t → with_ends f s ≤ with_ends f t) s (le_trans h l) (λ _. omega (arith, ends_black f))
      (λ m. let e : 765 ≡ t = omega arith in le_of_eq (ap (with_ends f) e))
      (λ p q m.
      by_ends (λ t. s ≤ t → t ≤ 765 → with_ends f s ≤ with_ends f t) t l (λ n _. omega arith)
      (λ n _. omega (arith, ends_white f, ends_le s (le_trans h l)))
      (λ p' q' n o. rw (ends_inner f s p q, ends_inner f t p' q') (up s t n o)) m l)
      h

-- the ends set in rules that agree up to 765
ends_same : (f g : ℕ → ℕ) → ((s : ℕ) → s ≤ 765 → f s ≡ g s) → (s : ℕ) → s ≤ 765 → with_ends f s ≡ with_ends g s
ends_same f g same s h =
    by_ends (λ s. with_ends f s ≡ with_ends g s) s h (ends_black f ∙ sym (ends_black g)) (ends_white f ∙ sym (ends_white g))
    (λ p q. ends_inner f s p q ∙ same s h ∙ sym (ends_inner g s p q))

-- the ends set in a table
pub ends_set : (entries : List ℕ) → length entries ≡ 766 → set (set entries 0 0) 765 765 ≡ tabulate (with_ends (at entries)) 766
ends_set entries size =
    is_tabulate (with_ends (at entries)) 766 (set (set entries 0 0) 765 765) (simp length-set size)
    (λ k h.
    by_ends (λ k. at (set (set entries 0 0) 765 765) k ≡ with_ends (at entries) k) k (le_of_suc-le-suc h)
    (get_or-set_other (set entries 0 0) 765 0 765 0 (λ z. omega arith)
    ∙ get_or-set_same entries 0 0 0 (omega arith)
    ∙ sym (ends_black (at entries)))
    (get_or-set_same (set entries 0 0) 765 765 0 (simp length-set (omega arith)) ∙ sym (ends_white (at entries)))
    (λ p q.
    get_or-set_other (set entries 0 0) 765 k 765 0 (λ z. omega arith)
    ∙ get_or-set_other entries 0 k 0 0 (λ z. omega arith)
    ∙ sym (ends_inner (at entries) k p q)))

-- the entry for the intensity s, before the ends are set
abbrev inner : Choice → ℕ → (ℕ → ℕ) → ℕ → ℕ
inner choice N H s = by_choice choice (full_count N) (share_at H s)

-- the curve's entry for the intensity s
curve_at : (choice : Choice) (N : ℕ) (H : ℕ → ℕ) (s : ℕ) → s ≤ 765 → at (tone_curve choice N H) s ≡ with_ends (inner choice N H) s
unfolding tone_curve entry
curve_at choice N H s h = at_tabulate (entry choice N H) 766 s (omega arith)

-- the curve has 766 entries
curve_length_lem : (choice : Choice) (N : ℕ) (H : ℕ → ℕ) → length (tone_curve choice N H) ≡ 766
unfolding tone_curve
curve_length_lem choice N H = length_tabulate (entry choice N H) 766

module _ (choice : Choice) (N : ℕ) (H : ℕ → ℕ) (positive : 0 < N) (is : IsCumulative N H) where
  -- before the ends are set no entry is above 765
  inner_le : (s : ℕ) → s ≤ 765 → inner choice N H s ≤ 765
  inner_le s h = choice_le (full_count N) (full_positive positive) choice (shares_le is s h)

  -- and none is less than the one before
  inner_rises : NonDecreasing (inner choice N H)
  inner_rises s t h l = choice_rises (full_count N) (full_positive positive) choice (shares_rise is s t h l)

  -- no entry of the curve is above 765
  curve_le : (s : ℕ) → s ≤ 765 → at (tone_curve choice N H) s ≤ 765
  curve_le s h = rw (curve_at choice N H s h) (ends_le (inner choice N H) inner_le s h)

  -- the curve does not fall
  curve_rises : NonDecreasing (at (tone_curve choice N H))
  curve_rises s t h l =
      rw (curve_at choice N H s (le_trans h l), curve_at choice N H t l) (ends_rise (inner choice N H) inner_le inner_rises s t h l)

pub curves_are_tone_curves : CurvesAreToneCurves
curves_are_tone_curves choice N H positive is =
    record {
      size = curve_length_lem choice N H;
      black = curve_at choice N H 0 zero-le ∙ ends_black (inner choice N H);
      white = curve_at choice N H 765 (le_refl 765) ∙ ends_white (inner choice N H);
      range = curve_le choice N H positive is;
      never_falls = curve_rises choice N H positive is;
    }

-- H(s − 1) of histograms that agree up to 765
previous_same : (H H' : ℕ → ℕ) → ((s : ℕ) → s ≤ 765 → H s ≡ H' s) → (s : ℕ) → s ≤ 765 → previous H s ≡ previous H' s
previous_same H H' same zero h = refl
previous_same H H' same (suc s) h = same s (omega arith)

-- rules that agree with the curve's give the curve
curve_of_lem : (choice : Choice) (N : ℕ) (H f : ℕ → ℕ) → ((s : ℕ) → s ≤ 765 → f s ≡ inner choice N H s)
    → tabulate (with_ends f) 766 ≡ tone_curve choice N H
unfolding tone_curve entry
curve_of_lem choice N H f same =
    tabulate_same (with_ends f) (entry choice N H) 766 (λ s h. ends_same f (inner choice N H) same s (le_of_suc-le-suc h))

-- the curve is made from the histogram's values at 0 to 765 alone
pub tone_curve_same : (choice : Choice) (N : ℕ) (H H' : ℕ → ℕ) → ((s : ℕ) → s ≤ 765 → H s ≡ H' s)
    → tone_curve choice N H ≡ tone_curve choice N H'
tone_curve_same choice N H H' same =
    sym (curve_of_lem choice N H (inner choice N H) (λ s h. refl))
    ∙ curve_of_lem choice N H' (inner choice N H)
    (λ s h. ap (by_choice choice (full_count N)) (ap₂ share_count (previous_same H H' same s h) (same s h)))

-- The shares in a table.
module _ (H : ℕ → ℕ) (shares : List ℕ) (sharesAre : shares ≡ tabulate (share_at H) 766) where
  -- each share, read from it
  shares_at : (s : ℕ) → s ≤ 765 → at shares s ≡ share_at H s
  shares_at s h = at_table (share_at H) 766 shares sharesAre s (omega arith)

  -- the shares of a cumulative histogram do not fall
  pub shares_non_decreasing : {N : ℕ} → IsCumulative N H → NonDecreasing (at shares)
  shares_non_decreasing is s t h l = rw (shares_at s (le_trans h l), shares_at t l) (shares_rise is s t h l)

-- The scaled targets in a table.
module _ (w : ℕ) (scaled : List ℕ) (scaledAre : scaled ≡ tabulate (λ k. w * G k) 766) where
  -- each scaled target, read from it
  scaled_at : (k : ℕ) → k ≤ 765 → at scaled k ≡ w * G k
  scaled_at k h = at_table (λ k. w * G k) 766 scaled scaledAre k (omega arith)

  -- they do not fall
  pub scaled_non_decreasing : NonDecreasing (at scaled)
  scaled_non_decreasing j k h l = rw (scaled_at j (le_trans h l), scaled_at k l) (scaled_rises w j k h l)

-- The parts that the code makes, and the curve that comes of them.
module _ (N : ℕ) (H : ℕ → ℕ) (full : ℕ) (shares : List ℕ) (fullIs : full ≡ full_count N) (sharesAre : shares ≡ tabulate (share_at H) 766) where
  -- the entries by a rule, with the ends set
  entries_curve : (choice : Choice) (f : ℕ → ℕ) (entries curve : List ℕ) → entries ≡ tabulate f 766
      → curve ≡ tabulate (with_ends (at entries)) 766 → ((s : ℕ) → s ≤ 765 → f s ≡ by_choice choice full (at shares s))
      → curve ≡ tone_curve choice N H
  entries_curve choice f entries curve entriesAre curveIs same =
      curveIs
      ∙ curve_of_lem choice N H (at entries)
      (λ s h.
      at_table f 766 entries entriesAre s (omega arith) ∙ same s h ∙ ap₂ (by_choice choice) fullIs (shares_at H shares sharesAre s h))

  -- choice 2: the curve, from the equalised entries
  pub equalised_curve : (entries curve : List ℕ) → entries ≡ tabulate (λ s. equalised_entry full (at shares s)) 766
      → curve ≡ tabulate (with_ends (at entries)) 766 → curve ≡ tone_curve Equalised N H
  equalised_curve entries curve entriesAre curveIs =
      entries_curve Equalised (λ s. equalised_entry full (at shares s)) entries curve entriesAre curveIs (λ s h. refl)

  -- choice 1, with the scaled targets in a table
  module _ (scaled : List ℕ) (scaledAre : scaled ≡ tabulate (λ k. full * G k) 766) where
    -- the curve, from the nearest places
    pub cube_curve : (top : ℕ) (entries curve : List ℕ) → top ≡ G 765
        → entries ≡ tabulate (λ s. nearest_place (at scaled) 765 (top * at shares s)) 766
        → curve ≡ tabulate (with_ends (at entries)) 766 → curve ≡ tone_curve Cube N H
    unfolding cube_entry
    cube_curve top entries curve topIs entriesAre curveIs =
        entries_curve Cube (λ s. nearest_place (at scaled) 765 (top * at shares s)) entries curve entriesAre curveIs
        (λ s h.
        nearest_same (at scaled) (λ k. full * G k) 765 (top * at shares s) (scaled_at full scaled scaledAre)
        ∙ ap (λ (t : ℕ). nearest_place (λ k. full * G k) 765 (t * at shares s)) topIs)

  -- the shares of a cumulative histogram of 1 to 2^31 pixels are within the full count
  pub shares_fit : 0 < N → N ≤ 2 ^ 31 → IsCumulative N H → SharesFit full shares
  shares_fit positive most is =
      record {
        some = rw fullIs (full_positive positive);
        most = rw fullIs (full_le most);
        part = λ s h. rw (shares_at H shares sharesAre s h, fullIs) (shares_le is s h);
      }

-- shares within the full count, each times a number up to G(765), fit into 64 bits
pub aims_fit : (full : ℕ) (shares : List ℕ) → SharesFit full shares → (top : ℕ) → top ≤ 99488250 → AimsFit top shares
aims_fit full shares fit top small s h =
    let le : top * at shares s ≤ 99488250 * 2 ^ 32 = mul-le-mul small (le_trans (fit.part s h) fit.most) in
    omega arith
