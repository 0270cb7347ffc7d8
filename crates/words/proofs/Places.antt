-- Laws of the words of a line.
use mathlib.Core.Path.{◌≡◌, refl}
use mathlib.Core.Bool.{Bool}
use mathlib.Core.List.{List}
use Prim.Native.Nat.{ℕ, ◌+◌}
use native.Mathlib.Omega.{arith}
use borrow.Author.Tests.{eqb-false}
use borrow.Table.Steps.{cases}
use lib.Dec.{eqb}
use lib.ListN.{length, drop, length-drop}
use Rattle.std.specs.Prelude.{IfSome}
use Rattle.scanning.specs.Scanning.{in_class, run_length}
use Rattle.scanning.specs.declared.Class.TheVariants.{Space, Word as WordByte}
use Rattle.scanning.proofs.Runs.{run_within}
use Rattle.words.specs.Words.{Within, word_at}

-- a word of at least one byte lies within its line
pub found_within : (test : ℕ → Bool) (line : List ℕ) {start end : ℕ} → end ≡ start + run_length test (drop start line) → (start ≡ end → ⊥)
    → Within (record { start = start; end = end }) line
found_within test line {start} {end} found some = record {
  order = omega (arith, found);
  ends = omega (arith, found, some, run_within test (drop start line), length-drop start line);
}

-- so does the word that follows a place
pub word_within : (line : List ℕ) (place : ℕ) → IfSome (word_at line place) (λ word. Within word line)
unfolding word_at
word_within line place =
    let start = place + run_length (in_class Space) (drop place line) in
    let end = start + run_length (in_class WordByte) (drop start line) in
    cases (eqb start end) (λ none. rw none tt) (λ some. rw some (found_within (in_class WordByte) line refl (eqb-false start end some)))
