-- When a word is digits.
use mathlib.Core.Path.{◌≡◌, sym, subst}
use mathlib.Core.List.{List}
use Prim.Native.Nat.{ℕ, ◌<◌}
use lib.ListN.{length}
use Rattle.text.specs.Decimal.{is_digit, Digits}
use Rattle.scanning.specs.Scanning.{run_length}
use Rattle.scanning.proofs.Runs.{run_passes}

-- a word all of which is a run of digits
pub all_digits : (word : List ℕ) → run_length is_digit word ≡ length word → Digits word
all_digits word same i less = run_passes is_digit word i (subst (λ (n : ℕ). i < n) (sym same) less)
