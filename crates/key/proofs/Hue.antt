-- Hue from the differences of channels.
use mathlib.Core.Path.{◌≡◌, sym, ap, ap₂, subst, subst₂, ◌∙◌}
use mathlib.Core.Logic.{inl, inr}
use Prim.Native.Nat.{ℕ, ◌+◌, ◌-◌, ◌*◌, ◌<◌, ◌≤◌}
use native.Mathlib.Nat.{mul_comm, mul_assoc, mul_left_comm, mul-one, add-mul, mul-add, mul-le-mul_right, mul-lt-mul_of_pos_right, lt_of_mul-lt-mul_right}
use native.Mathlib.Omega.{arith}
use borrow.Author.Tests.{le-leb, lt-leb, eq-eqb, ne_eqb}
use Rattle.rounding.specs.Fraction.{Fraction, whole, ◌over◌, ◌⊕◌, ◌≺◌, Within}
use Rattle.tables.proofs.Cases.{either}
use Rattle.pixel.specs.Accuracy.{KeepsDifferences}
use Rattle.pixel.specs.Move.{Channel, Channel.red, Channel.green, Channel.blue, sample}
use Rattle.pixel.specs.declared.Pixel.{Pixel}
use Rattle.key.proofs.Chroma.{not_above, not_below, spread_is, grey_stays}
use Rattle.key.specs.Hue.{greatest, chroma, sixths, hue, hue_bound, HuesAreAngles, KeepsAngle, AnglesWithin, MiddleKept, KeepsMiddle, DifferencesKeepHue}

-- The law, over samples and fractions. Two neighbouring differences m and n come out as u and v, each kept by the factor num / den to less
-- than w parts of a step; then u / m and v / n cannot part by more than that.
cross : (num den w m n u v : ℕ) → u * den < m * num + w → n * num < v * den + w → 0 < m + n
    → u * n * den < m * v * den + (m + n) * w
cross num den w m n u v first second some =
    let one : u * den * n + n ≤ m * num * n + w * n =
    omega (arith, mul-le-mul_right n first, add-mul (u * den) 1 n, add-mul (m * num) w n) in
    let two : n * num * m + m ≤ v * den * m + w * m =
    omega (arith, mul-le-mul_right m second, add-mul (n * num) 1 m, add-mul (v * den) w m) in
    let same : m * num * n ≡ n * num * m = simp (mul_assoc, mul_comm) in
    let left : u * n * den ≡ u * den * n = simp (mul_assoc, mul_comm, mul_left_comm) in
    let right : m * v * den ≡ v * den * m = simp (mul_assoc, mul_comm, mul_left_comm) in
    omega (arith, add-mul m n w, mul_comm m w, mul_comm n w)

-- with w full steps
crossed : (w num den m n u v : ℕ) → 0 < den → u * den < m * num + w * den → n * num < v * den + w * den → 0 < m + n
    → u * n < m * v + w * (m + n)
crossed w num den m n u v positive first second some =
    let same : (m + n) * (w * den) ≡ w * (m + n) * den = simp (mul_assoc, mul_comm, mul_left_comm) in
    lt_of_mul-lt-mul_right den (omega (arith, cross num den (w * den) m n u v first second some, add-mul (m * v) (w * (m + n)) den))

keeps_middle : (w : ℕ) (k : Fraction) (p q : Pixel) → KeepsDifferences w k p q → KeepsMiddle w p q
keeps_middle w k p q d lo mid hi l u s =
    let l' = d.order lo mid l in
    let u' = d.order mid hi u in
    let lower = d.difference mid lo in
    let upper = d.difference hi mid in
    let m = sample p mid - sample p lo in
    let n = sample p hi - sample p mid in
    let m' = sample q mid - sample q lo in
    let n' = sample q hi - sample q mid in
    let total : sample p hi - sample p lo ≡ m + n = omega arith in
    let total' : sample q hi - sample q lo ≡ m' + n' = omega arith in
    let more = crossed w k.num k.den m n m' n' d.denominator (not_above w k l l' lower) (not_below w k u u' upper) (omega arith) in
    let fewer = crossed w k.num k.den n m n' m' d.denominator (not_above w k u u' upper) (not_below w k l l' lower) (omega arith) in
    let turned : w * (n + m) ≡ w * (m + n) = ap (λ (t : ℕ). w * t) (omega arith) in
    let product : m' * (m + n) ≡ m' * m + m' * n = mul-add m' m n in
    let product' : m * (m' + n') ≡ m * m' + m * n' = mul-add m m' n' in
    record {
      lower = l';
      upper = u';
      above = rw (total, total') (omega (arith, more, mul_comm m m'));
      below = rw (total, total') (omega (arith, fewer, mul_comm m m', mul_comm m n', mul_comm n m'));
    }

-- Angles: x / c and y / c' sixths of a turn are less than w / c' apart, both sides times c × c'.
within : (w x y c c' : ℕ) → 0 < c' → x * c' < y * c + w * c → y * c < x * c' + w * c → Within (hue_bound w c') (sixths x c) (sixths y c')
within w x y c c' positive first second =
    let one : x * c' * (60 * c') < (y * c + w * c) * (60 * c') = mul-lt-mul_of_pos_right first (omega arith) in
    let two : y * c * (60 * c') < (x * c' + w * c) * (60 * c') = mul-lt-mul_of_pos_right second (omega arith) in
    (subst₂ ◌<◌ ac₁ ac₂ one, subst₂ ◌<◌ ac₃ ac₄ two)
  where
    ac₁ : x * c' * (60 * c') ≡ 60 * x * (c' * c')
    ac₁ = simp (mul_assoc, mul_left_comm)

    ac₂ : (y * c + w * c) * (60 * c') ≡ (60 * y * c' + 60 * w * c') * c
    ac₂ = simp (add-mul, mul_assoc, mul_comm, mul_left_comm)

    ac₃ : y * c * (60 * c') ≡ 60 * y * (c * c')
    ac₃ = simp (mul_assoc, mul_left_comm)

    ac₄ : (x * c' + w * c) * (60 * c') ≡ (60 * x * c' + 60 * w * c) * c'
    ac₄ = simp (add-mul, mul_assoc, mul_comm, mul_left_comm)

-- Places on the circle, in parts of a sixth that has c of them: m parts after k sixths, and m parts before.
abbrev after : ℕ → ℕ → ℕ → ℕ
after k c m = k * c + m

abbrev before : ℕ → ℕ → ℕ → ℕ
before k c m = k * c - m

-- Where the middle sample is kept, such a place is.
abbrev Steady : (ℕ → ℕ → ℕ) → Type 0
Steady place =
    (w m c m' c' : ℕ) → 0 < c' → m ≤ c → m' ≤ c' → m' * c < m * c' + w * c → m * c' < m' * c + w * c
    → Within (hue_bound w c') (sixths (place c m) c) (sixths (place c' m') c')

-- k sixths, over either chroma
whole_sixths : (k c c' : ℕ) → k * c * c' ≡ k * c' * c
whole_sixths k c c' = simp (mul_assoc, mul_comm)

after_steady : (k : ℕ) → Steady (after k)
after_steady k w m c m' c' some fits fits' above below =
    let product : after k c m * c' ≡ k * c * c' + m * c' = add-mul (k * c) m c' in
    let product' : after k c' m' * c ≡ k * c' * c + m' * c = add-mul (k * c') m' c in
    within w (after k c m) (after k c' m') c c' some (omega (arith, whole_sixths k c c')) (omega (arith, whole_sixths k c c'))

before_steady : (k : ℕ) → 0 < k → Steady (before k)
before_steady k positive w m c m' c' some fits fits' above below =
    let product : k * c * c' ≡ before k c m * c' + m * c' =
    ap (λ (t : ℕ). t * c') (omega (arith, mul-le-mul_right c positive)) ∙ add-mul (before k c m) m c' in
    let product' : k * c' * c ≡ before k c' m' * c + m' * c =
    ap (λ (t : ℕ). t * c) (omega (arith, mul-le-mul_right c' positive)) ∙ add-mul (before k c' m') m' c in
    within w (before k c m) (before k c' m') c c' some (omega (arith, whole_sixths k c c')) (omega (arith, whole_sixths k c c'))

-- The lines of hue.
module _ (p : Pixel) where
  red_up : p.b ≤ p.g → p.g ≤ p.r → hue p ≡ sixths (p.g - p.b) (chroma p)
  unfolding hue
  red_up l u = simp (eq-eqb p.r (greatest p) (omega arith), le-leb _ _ l)

  red_down : p.g < p.b → p.b ≤ p.r → hue p ≡ sixths (6 * chroma p + p.g - p.b) (chroma p)
  unfolding hue
  red_down l u = simp (eq-eqb p.r (greatest p) (omega arith), lt-leb _ _ l)

  green_greatest : p.r < p.g → p.b ≤ p.g → hue p ≡ sixths (2 * chroma p + p.b - p.r) (chroma p)
  unfolding hue
  green_greatest l u =
      simp (ne_eqb p.r (greatest p) (λ (e : p.r ≡ greatest p). omega arith), eq-eqb p.g (greatest p) (omega arith))

  blue_greatest : p.r < p.b → p.g < p.b → hue p ≡ sixths (4 * chroma p + p.r - p.g) (chroma p)
  unfolding hue
  blue_greatest l u =
      simp (
        ne_eqb p.r (greatest p) (λ (e : p.r ≡ greatest p). omega arith),
        ne_eqb p.g (greatest p) (λ (e : p.g ≡ greatest p). omega arith),
      )

-- a place before the end of the sixth sixth is less than a whole turn on
before_turn : (p : Pixel) (n : ℕ) → hue p ≡ sixths n (chroma p) → n < 6 * chroma p → hue p ≺ whole 360
before_turn p n e less = subst (λ (h : Fraction). h ≺ whole 360) (sym e) (omega arith)

pub hues_are_angles : HuesAreAngles
unfolding chroma
hues_are_angles p = record {
  red_fits = omega arith;
  green_fits = omega arith;
  blue_fits = omega arith;
  less_than_turn = λ some.
      either p.g p.r
      (λ gr.
      either p.b p.g
      (λ bg. before_turn p _ (red_up p bg gr) (omega arith))
      (λ gb.
      either p.b p.r
      (λ br. before_turn p _ (red_down p gb br) (omega arith))
      (λ rb. before_turn p _ (blue_greatest p rb gb) (omega arith))))
      (λ rg.
      either p.b p.g
      (λ bg. before_turn p _ (green_greatest p rg bg) (omega arith))
      (λ gb. before_turn p _ (blue_greatest p (omega arith) gb) (omega arith)));
}

-- The channels lo, mid and hi of a pixel are in that order, and then the angle h is at this place.
record Placed (p : Pixel) (lo mid hi : Channel) (place : ℕ → ℕ → ℕ) (h : Fraction) : Type 0 where
  spread : chroma p ≡ sample p hi - sample p lo
  angle : h ≡ sixths (place (chroma p) (sample p mid - sample p lo)) (chroma p)

-- The hue of a pixel that is not grey, by the order of its channels. Where two of them are equal, the lines of hue on both sides agree, up
-- to a whole turn.
module _ (p : Pixel) (some : 0 < chroma p) where
  hue_is : {n m : ℕ} → hue p ≡ sixths n (chroma p) → n ≡ m → hue p ≡ sixths m (chroma p)
  hue_is e same = e ∙ ap (λ (t : ℕ). sixths t (chroma p)) same

  from_red : p.b ≤ p.g → p.g ≤ p.r → Placed p blue green red (after 0) (hue p)
  from_red l u =
      record { spread = spread_is p (omega arith) (omega arith); angle = hue_is (red_up p l u) (omega arith) }

  to_green : p.b ≤ p.r → p.r ≤ p.g → Placed p blue red green (before 2) (hue p)
  to_green l u =
      let c : chroma p ≡ p.g - p.b = spread_is p (omega arith) (omega arith) in
      record {
        spread = c;
        angle =
            either p.g p.r
            (λ e. hue_is (red_up p (omega arith) e) (omega arith))
            (λ e. hue_is (green_greatest p e (omega arith)) (omega arith));
      }

  from_green : p.r ≤ p.b → p.b ≤ p.g → Placed p red blue green (after 2) (hue p)
  from_green l u =
      let c : chroma p ≡ p.g - p.r = spread_is p (omega arith) (omega arith) in
      record { spread = c; angle = hue_is (green_greatest p (omega arith) u) (omega arith) }

  to_blue : p.r ≤ p.g → p.g ≤ p.b → Placed p red green blue (before 4) (hue p)
  to_blue l u =
      let c : chroma p ≡ p.b - p.r = spread_is p (omega arith) (omega arith) in
      record {
        spread = c;
        angle =
            either p.b p.g
            (λ e. hue_is (green_greatest p (omega arith) e) (omega arith))
            (λ e. hue_is (blue_greatest p (omega arith) e) (omega arith));
      }

  from_blue : p.g ≤ p.r → p.r ≤ p.b → Placed p green red blue (after 4) (hue p)
  from_blue l u =
      let c : chroma p ≡ p.b - p.g = spread_is p (omega arith) (omega arith) in
      record {
        spread = c;
        angle =
            either p.b p.r
            (λ e. hue_is (red_down p (omega arith) e) (omega arith))
            (λ e. hue_is (blue_greatest p e (omega arith)) (omega arith));
      }

  to_red : p.g < p.b → p.b ≤ p.r → Placed p green blue red (before 6) (hue p)
  to_red l u =
      let c : chroma p ≡ p.r - p.g = spread_is p (omega arith) (omega arith) in
      record { spread = c; angle = hue_is (red_down p l u) (omega arith) }

  -- red itself stands at 0; seen from the last sixth, a whole turn further on
  at_red : p.b ≤ p.g → p.g ≤ p.b → p.b ≤ p.r → Placed p green blue red (before 6) (hue p ⊕ whole 360)
  at_red l l' u = record {
    spread = spread_is p (omega arith) (omega arith);
    angle =
        ap (λ (h : Fraction). h ⊕ whole 360) (red_up p l (omega arith)) ∙ ap₂ ◌over◌ (omega arith) (mul-one (chroma p));
  }

-- The order of the channels stays, so both pixels lie in the same sixth of the circle, and the middle sample decides.
module _ (w : ℕ) (p q : Pixel) (some : 0 < chroma p) (some' : 0 < chroma q) (middle : KeepsMiddle w p q) where
  same_sixth : {lo mid hi : Channel} {place : ℕ → ℕ → ℕ} {h h' : Fraction} → Steady place → MiddleKept w p q lo mid hi → sample p mid ≤ sample p hi
      → Placed p lo mid hi place h → Placed q lo mid hi place h' → Within (hue_bound w (chroma q)) h h'
  same_sixth {lo} {mid} {hi} steady kept u at at' =
      subst₂ (Within (hue_bound w (chroma q))) (sym at.angle) (sym at'.angle)
      (steady w _ (chroma p) _ (chroma q) some' (omega (arith, at.spread)) (omega (arith, at'.spread, kept.upper))
      (rw (at.spread, at'.spread) kept.above)
      (rw (at.spread, at'.spread) kept.below))

  angles_within : AnglesWithin (hue_bound w (chroma q)) (hue p) (hue q)
  angles_within =
      either p.g p.r
      (λ gr.
      either p.b p.g
      (λ bg.
      let at = from_red p some bg gr in
      let kept = middle blue green red bg gr (omega (arith, at.spread)) in
      inl (same_sixth (after_steady 0) kept gr at (from_red q some' kept.lower kept.upper)))
      (λ gb.
      either p.b p.r
      (λ br.
      let at = to_red p some gb br in
      let kept = middle green blue red (omega arith) br (omega arith) in
      either q.b q.g
      (λ e. inr (inr (same_sixth (before_steady 6 (omega arith)) kept br at (at_red q some' e kept.lower kept.upper))))
      (λ e. inl (same_sixth (before_steady 6 (omega arith)) kept br at (to_red q some' e kept.upper))))
      (λ rb.
      let at = from_blue p some gr (omega arith) in
      let kept = middle green red blue gr (omega arith) gb in
      inl (same_sixth (after_steady 4) kept (omega arith) at (from_blue q some' kept.lower kept.upper)))))
      (λ rg.
      either p.b p.r
      (λ br.
      let at = to_green p some br (omega arith) in
      let kept = middle blue red green br (omega arith) (omega arith) in
      inl (same_sixth (before_steady 2 (omega arith)) kept (omega arith) at (to_green q some' kept.lower kept.upper)))
      (λ rb.
      either p.b p.g
      (λ bg.
      let at = from_green p some (omega arith) bg in
      let kept = middle red blue green (omega arith) bg rg in
      inl (same_sixth (after_steady 2) kept bg at (from_green q some' kept.lower kept.upper)))
      (λ gb.
      let at = to_blue p some (omega arith) (omega arith) in
      let kept = middle red green blue (omega arith) (omega arith) rb in
      inl (same_sixth (before_steady 4 (omega arith)) kept (omega arith) at (to_blue q some' kept.lower kept.upper)))))

keeps_angle : (w : ℕ) (k : Fraction) (p q : Pixel) → KeepsDifferences w k p q → KeepsAngle w p q
keeps_angle w k p q d some' =
    either (chroma p) 0
    (λ none. absurd (omega (arith, grey_stays w k p q d (omega arith))))
    (λ some. angles_within w p q some some' (keeps_middle w k p q d))

pub differences_keep_hue : DifferencesKeepHue
differences_keep_hue w k p q d = record { angle = keeps_angle w k p q d; middle = keeps_middle w k p q d }
