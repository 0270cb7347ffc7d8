-- `shot::Shot::write` meets its contract. (Without these the range of the setting and what is written stay open.)
use Rattle.shot.proofs.Made.{colours_made, set_in_range}
use Rattle.shot.proofs.Shot.write.Goals as goal

pub colour_under-requires-clause-setting_in_range : goal.colour_under-requires-clause-setting_in_range
colour_under-requires-clause-setting_in_range c = set_in_range c.args.dial _ c.in_ok-setting.ensures

pub returns : goal.returns
returns c =
    let known = c.in_ok-method.ensures in
    rw (← c.self.view_is)
    (colours_made c.self.inside c.in-Some.curve c.in-Some.is c.args.method _ c.args.dial _ c.args.source.now c.args.destination.now _ known.0 known.1
    c.in_ok-check_sizes.ensures.sizes c.in_ok-setting.ensures c.colour_under.ensures)
