-- The exact samples of a pixel lie on one line, whose slope is the factor.
use mathlib.Core.Path.{◌≡◌, sym, ap, subst, ◌∙◌}
use Prim.Native.Nat.{ℕ, ◌+◌, ◌-◌, ◌*◌, ◌<◌, ◌≤◌}
use native.Mathlib.Nat.{mul_comm, mul_assoc, mul_left_comm, mul-one, one-mul, add-mul, mul-pos}
use native.Mathlib.Omega.{arith}
use borrow.Author.Tests.{le-leb, lt-leb, eq-eqb, ne_eqb}
use Rattle.rounding.specs.Fraction.{Fraction, whole, ◌over◌, ◌⊕◌, ◌⊗◌, ◌≈◌}
use Rattle.tables.proofs.Cases.{either}
use Rattle.pixel.specs.Accuracy.{factor}
use Rattle.pixel.specs.Inner.{AtMostWhite}
use Rattle.pixel.specs.Moving.{MovingSample}
use Rattle.pixel.specs.Lines.{line_of, distance, fraction, exactly}
use Rattle.pixel.specs.Move.{Channel, sample, intensity}
use Rattle.pixel.specs.Paper.{Exact, Exact.up, paper, code_value}
use Rattle.pixel.specs.declared.Direction.{Direction}
use Rattle.pixel.specs.declared.Direction.TheVariants.{Up, Down}
use Rattle.pixel.specs.declared.Method.{Method}
use Rattle.pixel.proofs.Channels.{inside, black_samples, white_samples}
use Rattle.pixel.proofs.Lines.{Away, moving, sample_facts, fits, factors_are_fractions, paper_follows_lines}
use Rattle.pixel.proofs.Paper.{at_most_one}
use Rattle.pixel.proofs.Strips.{intensity_in_range}
use Rattle.key.specs.Paper.{PaperKeepsDifferences}

-- The exact sample of c is v / den in code values, and v lies on a line: v + off = base + num × c.
record ValueOnLine (k : Fraction) (off base c : ℕ) (e : Exact) : Type 0 where
  v : ℕ
  value : code_value e ≈ v over k.den
  line : v + off ≡ base + k.num * c

-- two exact samples on one line differ by the slope times the difference of the samples
products : (X D Y E v v' n c c' d : ℕ) → X * d ≡ v * D → Y * d ≡ v' * E → v + n * c' ≡ v' + n * c
    → (X * (d * 1) + n * c' * D) * (E * (d * 1)) ≡ (Y * (d * 1) + n * c * E) * (D * (d * 1))
products X D Y E v v' n c c' d ex ey same =
    let left : X * (d * 1) + n * c' * D ≡ (v + n * c') * D =
    omega (arith, ap (λ (t : ℕ). X * t) (mul-one d), ex, add-mul v (n * c') D) in
    let right : Y * (d * 1) + n * c * E ≡ (v' + n * c) * E =
    omega (arith, ap (λ (t : ℕ). Y * t) (mul-one d), ey, add-mul v' (n * c) E) in
    ap (λ (t : ℕ). t * (E * (d * 1))) left
    ∙ ap (λ (t : ℕ). t * D * (E * (d * 1))) same
    ∙ exchanged (v' + n * c)
    ∙ ap (λ (t : ℕ). t * (D * (d * 1))) (sym right)
  where
    exchanged : (u : ℕ) → u * D * (E * (d * 1)) ≡ u * E * (D * (d * 1))
    exchanged u = simp (mul_assoc, mul_comm, mul_left_comm)

differ : {k : Fraction} {off base c c' : ℕ} {e e' : Exact} → ValueOnLine k off base c e → ValueOnLine k off base c' e'
    → code_value e ⊕ k ⊗ whole c' ≈ code_value e' ⊕ k ⊗ whole c
differ {k} on on' =
    let (D, d, ex) = on.value in
    let (E, d', ey) = on'.value in
    let positive : 0 < k.den * 1 = omega arith in
    (mul-pos D positive, mul-pos E positive, products _ _ _ _ on.v on'.v k.num _ _ k.den ex ey (omega (arith, on.line, on'.line)))

-- 255 less a fraction, as the value of a sample that is counted down
complement : (N D n d : ℕ) → N ≤ D → n ≤ 255 * d → n * (1 * D) ≡ 255 * N * d
    → 255 * (1 * D - N * 1) * d ≡ (255 * d - n) * (1 * (1 * D))
complement N D n d le small same =
    let a : (D - N) * d + N * d ≡ D * d = sym (add-mul (D - N) N d) ∙ ap (λ (t : ℕ). t * d) (omega arith) in
    let b : (255 * d - n) * D + n * D ≡ 255 * d * D = sym (add-mul (255 * d - n) n D) ∙ ap (λ (t : ℕ). t * D) (omega arith) in
    let left : 255 * (1 * D - N * 1) * d ≡ 255 * (D - N) * d = ap (λ (t : ℕ). 255 * t * d) (omega arith) in
    let right : (255 * d - n) * (1 * (1 * D)) ≡ (255 * d - n) * D = ap (λ (t : ℕ). (255 * d - n) * t) (omega arith) in
    let whole_n : n * (1 * D) ≡ n * D = ap (λ (t : ℕ). n * t) (one-mul D) in
    omega (arith, mul_assoc 255 (D - N) d, mul_assoc 255 N d, mul_assoc 255 d D, mul_comm d D)

-- where the line starts: at black, or at white
abbrev base : Direction → ℕ → ℕ
base Up d = 0
base Down d = 255 * d

value_on_line : (way : Direction) (start n d c x : ℕ) (e : Fraction) → AtMostWhite x n d → (x * n) over d ≈ whole 255 ⊗ e → Away way start x c
    → ValueOnLine (n over d) (start * n) (base way d) c (exactly way e)
value_on_line Up start n d c x e small same away = record {
  v = x * n;
  value = (same.1, same.0, sym same.2);
  line = omega (arith, add-mul x start n, ap (λ (u : ℕ). u * n) away, mul_comm n c);
}
value_on_line Down start n d c x e small same away = record {
  v = 255 * d - x * n;
  value = (omega (arith, same.1), same.0, complement e.num e.den (x * n) d (at_most_one small e same) small.small same.2);
  line = omega (arith, small.small, add-mul x c n, ap (λ (u : ℕ). u * n) away, mul_comm n c);
}

-- all exact samples of the pixels of intensity s that are moved to f
exact_on_line : (m : Method) {s f c : ℕ} → MovingSample s f c
    → (let line = line_of m s f in
    ValueOnLine (fraction line) (line.start * line.numerator) (base line.direction line.denominator) c
    (paper m (s over 255) (f over 255) (c over 255)))
exact_on_line m {s} {f} {c} h =
    let line = line_of m s f in
    let on = paper_follows_lines m s f c h in
    subst (ValueOnLine (fraction line) (line.start * line.numerator) (base line.direction line.denominator) c) (sym on.counts)
    (value_on_line line.direction line.start line.numerator line.denominator c (distance line c) on.x (fits m h) on.same
    (sample_facts m h).away)

-- black and white stay, and their samples are equal
flat : (x c c' : ℕ) → c ≡ c' → code_value (up (whole x)) ⊕ (1 over 1) ⊗ whole c' ≈ code_value (up (whole x)) ⊕ (1 over 1) ⊗ whole c
flat x c c' same = (omega arith, omega arith, omega (arith, same))

pub paper_keeps_differences : PaperKeepsDifferences
unfolding factor paper
paper_keeps_differences m p f a b bytes le =
    let s = intensity p in
    either s 0
    (λ l.
    let e : s ≡ 0 = omega arith in
    simp (eq-eqb s 0 e, le-leb (s * 1) 0 (omega arith)) (flat 0 _ _ (black_samples p e a ∙ sym (black_samples p e b))))
    (λ light.
    either 765 s
    (λ l.
    let e : s ≡ 765 = omega (arith, intensity_in_range p bytes) in
    simp (
      ne_eqb s 0 (λ z. omega arith),
      lt-leb (s * 1) 0 (omega arith),
      eq-eqb s 765 e,
      le-leb 765 (s * 1) (omega arith),
    )
    (flat 1 _ _ (white_samples p bytes e a ∙ sym (white_samples p bytes e b))))
    (λ dark.
    let at : (c : Channel) → MovingSample s f (sample p c) = λ c. record { inside = inside p f bytes le c; not_black = light; not_white = dark } in
    rw (factors_are_fractions m s f (moving (at a))) (differ (exact_on_line m (at a)) (exact_on_line m (at b)))))
