-- `balance::main` is safe: what it writes lies within the output.
use Rattle.std.proofs.Common.{sym, length-take-le}
use Rattle.still.proofs.Limits.{size_within}
use Rattle.balance.proofs.main.Goals as goal

pub slice_bounds-output-end : goal.slice_bounds-output-end
slice_bounds-output-end c = size_within _ _ _ _ c.balance_file-size.ensures

pub slice_bounds-write_all-end : goal.slice_bounds-write_all-end
slice_bounds-write_all-end c = sym (length-take-le _ _ (size_within _ _ _ _ c.balance_file-size.ensures))
