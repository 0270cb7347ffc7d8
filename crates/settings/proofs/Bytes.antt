-- The bytes of a strip, mixed with those of its full balance.
use mathlib.Core.Path.{◌≡◌, refl, sym, ◌∙◌}
use mathlib.Core.List.{List, [], ◌∷◌}
use Prim.Native.Nat.{ℕ, zero, suc, ◌<◌}
use native.Mathlib.Omega.{arith}
use lib.ListN.{length}
use lib.Seq.{ext_get_or}
use Rattle.tables.specs.Table.{at}
use Rattle.settings.specs.Inner.{mixed_bytes}
use Rattle.settings.specs.Setting.{mixed}

mixed_length : (k : ℕ) (source balance : List ℕ) → length balance ≡ length source → length (mixed_bytes k source balance) ≡ length source
mixed_length k [] balance e = refl
mixed_length k (c ∷ source) [] e = absurd (omega arith)
mixed_length k (c ∷ source) (c' ∷ balance) e = omega (arith, mixed_length k source balance (omega arith))

mixed_at : (k : ℕ) (source balance : List ℕ) (i : ℕ) → length balance ≡ length source → i < length source
    → at (mixed_bytes k source balance) i ≡ mixed k (at source i) (at balance i)
mixed_at k [] balance i e h = absurd (omega arith)
mixed_at k (c ∷ source) [] i e h = absurd (omega arith)
mixed_at k (c ∷ source) (c' ∷ balance) zero e h = refl
mixed_at k (c ∷ source) (c' ∷ balance) (suc i) e h = mixed_at k source balance i (omega arith) (omega arith)

-- bytes that are mixed at each place are the mixed ones
pub mixed_end : (k : ℕ) (source balance destination : List ℕ) → length balance ≡ length source → length destination ≡ length source
    → ((i : ℕ) → i < length source → at destination i ≡ mixed k (at source i) (at balance i))
    → destination ≡ mixed_bytes k source balance
mixed_end k source balance destination size size' each =
    ext_get_or 0 destination (mixed_bytes k source balance) (size' ∙ sym (mixed_length k source balance size))
    (λ i h.
    let inside : i < length source = omega arith in
    each i inside ∙ sym (mixed_at k source balance i size inside))
