-- The invariant of `curve_bytes::write_curve`.
use Prim.Native.Nat.{◌*◌}
use Rattle.tables.specs.Table.{at}
use Rattle.tables.proofs.Filling.{Filled}
use Rattle.curve_bytes.specs.CurveBytes.{curve_bytes}
use Rattle.curve_bytes.proofs.write_curve.Given as goal

abbrev pub invariant-loop-k : goal.invariant-loop-k
invariant-loop-k l = Filled (at (curve_bytes l.fn.curve)) 1532 l.bytes (2 * l.k)
