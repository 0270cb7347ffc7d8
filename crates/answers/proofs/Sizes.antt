-- How long the pieces of an answer are.
use mathlib.Core.Path.{◌≡◌, refl}
use mathlib.Core.List.{List, [], ◌∷◌}
use Prim.Native.Nat.{ℕ, ◌+◌, ◌*◌, ◌^◌, ◌≤◌, ◌<◌}
use native.Mathlib.Omega.{arith}
use lib.ListN.{length}
use Rattle.text.specs.Decimal.{decimal}
use Rattle.text.specs.Text.{Wrote}
use Rattle.text.specs.declared.Writer.{Writer}
use Rattle.text.proofs.Decimal.{decimal_means}
use Rattle.text.proofs.Runs.{writes_length, writes_room, wrote_all}
use Rattle.hexadecimal.specs.Hexadecimal.{encoded}
use Rattle.hexadecimal.proofs.Hexadecimal.{length_encoded}
use Rattle.answers.specs.Answers.{strip_text, text_limit, WritesAnswer}

-- a number of 64 bits has at most 20 digits
pub decimal_size : (n : ℕ) → n < 2 ^ 64 → length (decimal n) ≤ 20
decimal_size n fits = decimal_means.most n 20 (omega arith) (omega arith)

-- bytes as a script has them
pub strip_some : (bytes : List ℕ) → (length bytes ≡ 0 → ⊥) → strip_text bytes ≡ encoded bytes
strip_some [] some = absurd (some refl)
strip_some (byte ∷ bytes) some = refl

pub strip_size : (bytes : List ℕ) → length (strip_text bytes) ≤ 2 * length bytes + 1
strip_size [] = omega arith
strip_size (byte ∷ bytes) = omega (arith, length_encoded (byte ∷ bytes))

-- how long the pieces of an answer are
pub ruleset sizes = (decimal_size, strip_size)

-- What is written from the start of an output, and is not longer than an answer, is one.
pub answered : {text before after : List ℕ} {start now : Writer} → Wrote text start now → start.end ≡ 0 → start.run.now ≡ before → now.run.now ≡ after
    → now.end ≤ text_limit → WritesAnswer text before now.end after
answered wrote none held left short = record { writes = wrote_all wrote none held left; short = short }

-- For callers: an answer stays within an output that has room for every answer, and leaves its length. (Cited by nothing; docs/PORT.md
-- names both.)
module _ {text before after : List ℕ} {size : ℕ} (room : text_limit ≤ length before) (wrote : WritesAnswer text before size after) where
  pub answer_within : size ≤ length after
  answer_within = omega (arith, room, writes_room wrote.writes 0 (omega (arith, room, wrote.short)))

  pub answer_length : length after ≡ length before
  answer_length = writes_length wrote.writes (omega (arith, room, wrote.short))
