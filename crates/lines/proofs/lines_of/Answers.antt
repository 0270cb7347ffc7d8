-- `lines::lines_of` meets its contract.
use Prim.Native.Nat.{ℕ}
use native.Mathlib.Omega.{arith}
use borrow.Author.Rules.{rules}
use Rattle.tables.specs.Table.{at}
use Rattle.tables.proofs.Made.{made_by}
use Rattle.lines.specs.Line.{IsLineOf}
use Rattle.lines.specs.declared.FixedLine.{FixedLine}
use Rattle.lines.proofs.lines_of.Goals as goal

-- One call is proved with c put out of sight: the search would enter the calls of all 766 places there.
pub returns : goal.returns
returns c = λ s h.
    made_by _ (λ i (line : FixedLine). IsLineOf c.args.method i (at c.args.targets.entries.now i) line) _
    (λ i line f k. let c : ℕ = 0 in search rules) (record { slope = 0; offset = 0 }) c.from_fn.result 766 c.from_fn.ensures.items s
    (omega arith)
