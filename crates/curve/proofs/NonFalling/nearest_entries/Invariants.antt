-- The invariant of `curve::NonFalling::nearest_entries`.
use Prim.Native.Nat.{ℕ, ◌*◌, ◌≤◌}
use Rattle.tables.specs.Table.{at}
use Rattle.tables.proofs.Filling.{Filled}
use Rattle.curve.specs.Inner.{Plateau, Below}
use Rattle.curve.specs.Nearest.{nearest_place}
use Rattle.curve.proofs.NonFalling.nearest_entries.Given as goal

abbrev pub invariant-loop-s : goal.invariant-loop-s
invariant-loop-s l =
    Filled (λ s. nearest_place (at l.self.values.now) 765 (l.scale * at l.shares.values.now s)) 766 l.entries l.s
    × Plateau l.self.values.now l.bounds.lower l.bounds.upper
    × ((t : ℕ) → l.s ≤ t → t ≤ 765 → Below l.self.values.now (l.scale * at l.shares.values.now t) l.bounds.upper)
