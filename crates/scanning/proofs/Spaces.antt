-- Which bytes are white space.
use Rattle.std.proofs.Common.{◌≡◌, ℕ, ◌≤◌, true, false, arith}
use Rattle.std.proofs.lemmas.Bool.Decides.{nat_tests}
use Rattle.scanning.specs.Scanning.{is_space}

-- tab, LF, VT, FF and CR follow one another (cited by nothing; docs/PORT.md names it)
pub control_space : (b : ℕ) → 9 ≤ b → b ≤ 13 → is_space b ≡ true
control_space b low high = grind (arith, nat_tests)

pub not_space : (b : ℕ) → (b ≡ 32 → ⊥) → (9 ≤ b → b ≤ 13 → ⊥) → is_space b ≡ false
not_space b space control = grind (arith, nat_tests)
