-- Where a line is cut before its comment.
use Rattle.std.proofs.lemmas.List.{length-take-le}
use Rattle.scanning.proofs.Runs.{run_within}

-- what stands before a comment is within the line
pub ruleset cuts = (run_within, length-take-le)
