-- The invariant of `curve::NonFalling::bounds_from`.
use Rattle.curve.specs.Inner.{Plateau, Below}
use Rattle.curve.proofs.NonFalling.bounds_from.Given as goal

abbrev pub invariant-loop-upper : goal.invariant-loop-upper
invariant-loop-upper l = Plateau l.self.values.now l.lower l.upper × Below l.self.values.now l.aim l.upper
