-- Laws of a run: the bytes at the start that pass a test.
use Rattle.std.proofs.Common.{◌≡◌, ℕ, suc, ◌+◌, ◌≤◌, ◌<◌, zero-le, suc-le-suc, Bool, true, false, List, [], ◌∷◌, ◌++◌, length, take, drop, refl, ap, ◌∙◌, subst, arith}
use Rattle.std.specs.List.{prefix_len}
use Rattle.std.proofs.lemmas.List.Sums.{prefix_len-le-length, prefix_len_passes, prefix_len-drop_all}
use Rattle.std.proofs.lemmas.List.Folds.{length-prefix_len}
use Rattle.std.proofs.lemmas.Slice.{between_to_end}
use lib.Seq.{get_or-take}
use borrow.Table.Steps.{cases}
use Rattle.tables.specs.Table.{at}
use Rattle.scanning.specs.Scanning.{run_length}

module _ (test : ℕ → Bool) where
  -- what std calls the longest front that passes
  pub run_is : (bytes : List ℕ) → run_length test bytes ≡ prefix_len test bytes
  unfolding run_length
  run_is [] = refl
  run_is (b ∷ bytes) = cases (test b) (λ e. rw e (omega (arith, run_is bytes))) (λ e. rw e refl)

  pub run_within : (bytes : List ℕ) → run_length test bytes ≤ length bytes
  run_within bytes = rw run_is (prefix_len-le-length test bytes)

  -- each byte of the run passes
  pub run_passes : (bytes : List ℕ) (i : ℕ) → i < run_length test bytes → test (at bytes i) ≡ true
  run_passes bytes i less = prefix_len_passes test bytes i 0 (rw run_is at less)

  -- past the last byte there is none
  pub run_past : (bytes : List ℕ) (place : ℕ) → length bytes ≤ place → run_length test (drop place bytes) ≡ 0
  run_past bytes place past = rw run_is (prefix_len-drop_all test bytes place past)

  -- bytes that pass go before the run of what follows
  pub run_append : (front rest : List ℕ) → ((i : ℕ) → i < length front → test (at front i) ≡ true)
      → run_length test (front ++ rest) ≡ length front + run_length test rest
  unfolding run_length
  run_append [] rest all = omega arith
  run_append (b ∷ front) rest all =
      rw (all 0 (suc-le-suc zero-le)) (omega (arith, run_append front rest (λ i less. all (suc i) (suc-le-suc less))))

  -- a first byte that does not pass ends the run at once
  pub run_none : (front rest : List ℕ) → 0 < length front → test (at front 0) ≡ false → run_length test (front ++ rest) ≡ 0
  unfolding run_length
  run_none [] rest some e = absurd (omega arith)
  run_none (b ∷ front) rest some e = rw e refl

  -- what comes after a run does not pass
  pub run_stops : (bytes : List ℕ) → run_length test (drop (run_length test bytes) bytes) ≡ 0
  unfolding run_length
  run_stops [] = refl
  run_stops (b ∷ bytes) = cases (test b) (λ e. rw e (run_stops bytes)) (λ e. rw (e, e) refl)

  -- the run itself
  pub length_run : (bytes : List ℕ) → length (take (run_length test bytes) bytes) ≡ run_length test bytes
  length_run bytes = rw run_is (length-prefix_len test bytes)

  pub run_all : (bytes : List ℕ) (i : ℕ) → i < length (take (run_length test bytes) bytes)
      → test (at (take (run_length test bytes) bytes) i) ≡ true
  run_all bytes i h =
      let less : i < run_length test bytes = subst (λ n. i < n) (length_run bytes) h in
      ap test (get_or-take (run_length test bytes) bytes i 0 less) ∙ run_passes bytes i less

-- what shows where a run ends
pub ruleset ends = (prefix_len-le-length, run_is, run_past, between_to_end)
