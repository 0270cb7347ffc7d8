-- Stores into a run of bytes, one after the other.
use mathlib.Core.List.{List, ◌++◌, append_assoc}
use mathlib.Core.Path.{◌≡◌, sym, ap, ◌∙◌}
use Prim.Native.Nat.{ℕ, ◌+◌, ◌≤◌}
use native.Mathlib.Omega.{arith}
use lib.ListN.{length, take, drop, length-append}
use Rattle.std.proofs.lemmas.List.{take-take}
use Rattle.writing.specs.Inner.{WrittenFrom}

-- bytes written from j on, and then others that end at j
pub written_before : (l m n : List ℕ) (s t i j : ℕ) (first rest : List ℕ) → s ≤ t → i + length first ≡ j
    → WrittenFrom l m t j rest → WrittenFrom m n s i first → WrittenFrom l n s i (first ++ rest)
written_before l m n s t i j first rest le e behind before =
    let end : j + length rest ≡ i + length (first ++ rest) = omega (arith, length-append first rest) in
    record {
      kept = before.kept ∙ sym (take-take s t m le) ∙ ap (take s) behind.kept ∙ take-take s t l le;
      written =
          before.written
          ∙ ap (λ (k : List ℕ). first ++ k) (ap (λ (k : ℕ). drop k m) e ∙ behind.written)
          ∙ sym (append_assoc first rest (drop (j + length rest) l))
          ∙ ap (λ (k : ℕ). first ++ rest ++ drop k l) end;
    }
