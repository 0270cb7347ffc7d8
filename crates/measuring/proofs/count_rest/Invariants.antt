-- The invariant of `measuring::count_rest`.
use mathlib.Core.Path.{◌≡◌}
use lib.ListN.{length}
use Rattle.tables.specs.Table.{at}
use Rattle.measuring.specs.Inner.{arrays_pixels}
use Rattle.measuring.proofs.Counting.{Counting}
use Rattle.measuring.proofs.count_rest.Given as goal

abbrev pub invariant-loop-pixel : goal.invariant-loop-pixel
invariant-loop-pixel l = (length l.counts ≡ 766) × Counting l.initial.counts (arrays_pixels l.pixels) (at l.counts) l.pixel-index
