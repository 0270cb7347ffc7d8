-- `curve::NonFalling::nearest_place` meets its contract. (The two ends, at which `upper` is a known number, stay open without these.)
use Rattle.curve.proofs.Nearest.{found_start, found_past}
use Rattle.curve.proofs.NonFalling.nearest_place.Goals as goal

pub returns-then-upper-eq0 : goal.returns-then-upper-eq0
returns-then-upper-eq0 c =
    found_start c.args.self.values.now c.args.aim c.args.bounds.lower c.args.bounds.upper c.args.self.never_falls
    c.requires c.if-upper-eq0.true

pub returns-then-upper-ge766 : goal.returns-then-upper-ge766
returns-then-upper-ge766 c =
    found_past c.args.self.values.now c.args.aim c.args.bounds.lower c.args.bounds.upper c.args.self.never_falls
    c.requires c.if-upper-eq0.false c.if-upper-ge766.true
