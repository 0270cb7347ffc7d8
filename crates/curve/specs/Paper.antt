-- Source 004, equations 5 and 14, in exact fractions, with one change that document 02 makes on purpose (wish 3). In the paper H_L is the
-- number of pixels, and H_l how many of them have an intensity of at most l. The house rule puts the mean of H_l and H_(l − 1) in place
-- of H_l, so that the share H_l / H_L becomes (H_l + H_(l − 1)) / (2 × H_L). All else is the paper's.
use Rattle.std.specs.Prelude.{◌≡◌, ℕ, suc, ◌+◌, ◌*◌, ◌≤◌, ◌<◌}
use Rattle.rounding.specs.Fraction.{Fraction, whole, ◌over◌, ◌⊕◌, ◌⊖◌, ◌⊗◌, ◌⊘◌, ◌≈◌, ◌≼◌, ◌≺◌, nearest}
use Rattle.targets.specs.Paper.{area}
use Rattle.curve.specs.Curve.{previous, entry}
use Rattle.curve.specs.declared.Choice.TheVariants.{Cube, Equalised}

-- What the house has for H_l: the mean of H(l) and H(l − 1), with H(−1) = 0.
abbrev pub mean_count : (ℕ → ℕ) → ℕ → Fraction
mean_count H l = (H l + previous H l) over 2

-- Equation 5: f(l) = round((L / H_L) H_l), with L = 765.
abbrev pub equation5 : ℕ → Fraction → Fraction
equation5 hL hl = (whole 765 ⊘ whole hL) ⊗ hl

-- |x − y|: one of the two differences is 0.
abbrev pub apart : Fraction → Fraction → Fraction
apart x y = (x ⊖ y) ⊕ (y ⊖ x)

-- Equation 14: f(l) is the k, 0 to 765, where |H_L A(3k / L) − A(3) H_l| is least. Equation 11's factor √3/6 is left out of both.
abbrev pub equation14 : ℕ → Fraction → ℕ → Fraction
equation14 hL hl k = apart (whole hL ⊗ area (k over 255)) (area (whole 3) ⊗ hl)

-- Claim: between the ends, the curve's entry for the intensity s is that of the paper's equations, with H_L = N and that mean for H_l; of
-- two equal distances the smaller k wins. Proved: proofs/Paper.antt, `entries_follow_the_paper`.
pub record EntriesFollowThePaper : Type 0 where
  -- "wherever the curves used H(s) / N they now use (H(s) + H(s − 1)) / (2 × N), with H(−1) = 0" (document 02): the share for s + 1, and
  -- for 0
  pub share : (N : ℕ) (H : ℕ → ℕ) (s : ℕ) → 0 < N → mean_count H (suc s) ⊘ whole N ≈ (H (suc s) + H s) over (2 * N)
  pub first_share : (N : ℕ) (H : ℕ → ℕ) → 0 < N → mean_count H 0 ⊘ whole N ≈ (H 0 + 0) over (2 * N)
  pub equalised : (N : ℕ) (H : ℕ → ℕ) (s : ℕ) → 0 < N → 0 < s → s < 765 → entry Equalised N H s ≡ nearest (equation5 N (mean_count H s))
  pub within : (N : ℕ) (H : ℕ → ℕ) (s : ℕ) → 0 < s → s < 765 → entry Cube N H s ≤ 765
  pub least : (N : ℕ) (H : ℕ → ℕ) (s : ℕ) → 0 < s → s < 765
      → (j : ℕ) → j ≤ 765 → equation14 N (mean_count H s) (entry Cube N H s) ≼ equation14 N (mean_count H s) j
  pub first : (N : ℕ) (H : ℕ → ℕ) (s : ℕ) → 0 < s → s < 765
      → (j : ℕ) → j < entry Cube N H s → equation14 N (mean_count H s) (entry Cube N H s) ≺ equation14 N (mean_count H s) j
