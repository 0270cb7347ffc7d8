-- How long the answers are.
use mathlib.Core.Path.{◌≡◌}
use Prim.Native.Nat.{ℕ, ◌+◌, ◌≤◌, ◌<◌}
use native.Mathlib.Omega.{arith}
use lib.ListN.{length, length-append}
use Rattle.std.proofs.Common.{Ok, Err}
use Rattle.refusal.specs.Numbers.{refusal_number}
use Rattle.refusal.specs.Refusal.{first_of}
use Rattle.refusal.specs.declared.Refusal.{Refusal}
use Rattle.refusal.proofs.Laws.{first_keeps}
use Rattle.text.specs.Decimal.{decimal}
use Rattle.text.proofs.Decimal.{decimal_means}
use Rattle.netpbm.specs.Header.{Reading, number_of}
use Rattle.still.specs.Still.{refusal_line, file_checks}

pub refusal_size : (number : ℕ) → length (refusal_line number) ≡ length (decimal number) + 9
unfolding refusal_line
refusal_size number = simp length-append (omega arith)

-- a number of two digits makes a line of at most eleven bytes
pub refusal_short : (number : ℕ) → number < 100 → length (refusal_line number) ≤ 11
refusal_short number small =
    omega (arith, refusal_size number, decimal_means.most number 2 (omega arith) small)

-- every refusal's number has at most two digits
pub refusal_small : (refusal : Refusal) → refusal_number refusal < 100
refusal_small r = grind arith

-- so those of files do
reading_small : (reading : Reading) → number_of reading < 100
reading_small (Ok header) = omega arith
reading_small (Err refusal) = refusal_small refusal

-- and all of them
pub number_small : (reading : Reading) (size : ℕ) → first_of (file_checks reading size) < 100
number_small reading size =
    first_keeps (λ n. n < 100) (file_checks reading size) (reading_small reading, (omega arith, (omega arith, tt))) (omega arith)
