-- `measuring::added` meets its contract.
use Prim.Native.Nat.{ℕ}
use mathlib.Core.Path.{◌≡◌}
use borrow.Author.Rules.{rules}
use Rattle.tables.proofs.Laws.{is_tabulate}
use Rattle.tables.proofs.Made.{made_by}
use Rattle.measuring.specs.Inner.{sum_of_four}
use Rattle.measuring.proofs.added.Goals as goal

-- One call is proved with c put out of sight: the search would enter the calls of all 766 places there.
pub returns : goal.returns
returns c =
    is_tabulate _ 766 _ (search rules)
    (made_by _ (λ s sum. sum ≡ sum_of_four c.args.first c.args.second c.args.third c.args.fourth s) _
    (λ s sum f called. let c : ℕ = 0 in search rules) 0 c.from_fn.result 766 c.from_fn.ensures.items)
