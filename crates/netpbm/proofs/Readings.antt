-- The answers to reading a header, case by case.
use Rattle.std.proofs.Common.{◌≡◌, refl, Ok, Err, arith}
use Rattle.refusal.proofs.Numbers.{refusals_are_numbered}
use Rattle.netpbm.specs.Header.{Reading, Accepted, number_of, values_of}

-- an answer by the number 0 has a header
pub accepted_is : (reading : Reading) → number_of reading ≡ 0 → reading ≡ Accepted (values_of reading)
accepted_is (Ok header) e = refl
accepted_is (Err refusal) e = absurd (omega (arith, refusals_are_numbered.above refusal, e))
