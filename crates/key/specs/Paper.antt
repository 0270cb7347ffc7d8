-- The paper's exact pixel has the hue of the pixel going in, where the factor is not 0: rounding alone turns it.
use Rattle.std.specs.Prelude.{ℕ, ◌≤◌}
use Rattle.rounding.specs.Fraction.{whole, ◌⊕◌, ◌⊗◌, ◌≈◌}
use Rattle.pixel.specs.Accuracy.{factor}
use Rattle.pixel.specs.Move.{Channel, sample, InRange, intensity}
use Rattle.pixel.specs.Paper.{code_value, exact_sample}
use Rattle.pixel.specs.declared.Method.{Method}
use Rattle.pixel.specs.declared.Pixel.{Pixel}

-- Claim: of the paper's exact samples, in code values, two differ by their input difference times the factor, without any error. Proved:
-- proofs/Paper.antt, `paper_keeps_differences`.
abbrev pub PaperKeepsDifferences : Type 0
PaperKeepsDifferences =
    (m : Method) (p : Pixel) (f : ℕ) (a b : Channel) → InRange p → f ≤ 765
    → (let k = factor m (intensity p) f in
    code_value (exact_sample m p f a) ⊕ k ⊗ whole (sample p b) ≈ code_value (exact_sample m p f b) ⊕ k ⊗ whole (sample p a))
