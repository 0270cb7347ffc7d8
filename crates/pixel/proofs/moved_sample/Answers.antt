-- `pixel::moved_sample` meets its contract. (A name above the function in place of this would be missing where the edit
-- `bright_line_starts_higher` takes the lemma away, and then no fact would be tried.)
use mathlib.Core.Path.{sym, ◌∙◌}
use borrow.Author.Rules.{rules}
use Rattle.pixel.proofs.Lines.{moves_follow_lines}
use Rattle.pixel.proofs.moved_sample.Goals as goal

pub returns : goal.returns
returns c = c.along_line.ensures ∙ sym (moves_follow_lines _ _ _ _ (search rules))
