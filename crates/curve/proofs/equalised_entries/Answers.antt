-- `curve::equalised_entries` meets its contract.
use Prim.Native.Nat.{ℕ}
use mathlib.Core.Path.{◌≡◌}
use borrow.Author.Rules.{rules}
use Rattle.tables.specs.Table.{at}
use Rattle.tables.proofs.Laws.{is_tabulate}
use Rattle.tables.proofs.Made.{made_by}
use Rattle.curve.specs.Curve.{equalised_entry}
use Rattle.curve.proofs.equalised_entries.Goals as goal

-- One call is proved with c put out of sight: the search would enter the calls of all 766 places there.
pub returns : goal.returns
returns c =
    is_tabulate _ 766 _ (search rules)
    (made_by _ (λ s entry. entry ≡ equalised_entry c.args.full (at c.args.shares.now s)) _
    (λ s entry f called. let c : ℕ = 0 in search rules) 0 c.from_fn.result 766 c.from_fn.ensures.items)
