-- `curve::scaled_by` meets its contract.
use Prim.Native.Nat.{ℕ, ◌*◌, ◌^◌, ◌<◌}
use mathlib.Core.Path.{◌≡◌, ap, ◌∙◌}
use borrow.Author.Rules.{rules}
use Rattle.std.proofs.iter.Serving.{serving}
use Rattle.tables.specs.Table.{at}
use Rattle.tables.proofs.Laws.{is_tabulate, at_table}
use Rattle.tables.proofs.Made.{made_by}
use Rattle.targets.specs.Cube.{G}
use Rattle.curve.proofs.Curve.{scaled_fits}
use Rattle.curve.proofs.scaled_by.Goals as goal

pub from_fn-requires : goal.from_fn-requires
from_fn-requires c =
    let fits : (k : ℕ) → k < 766 → c.args.w * at c.args.targets k < 2 ^ 64 = scaled_fits c.args.w c.args.targets c.requires.0 c.requires.1 in
    grind (serving, fits)

-- One call is proved with c put out of sight: the search would enter the calls of all 766 places there.
pub returns : goal.returns
returns c =
    is_tabulate _ 766 _ (search rules)
    (λ k h.
    made_by _ (λ s scaled. scaled ≡ c.args.w * at c.args.targets s) _
    (λ s scaled f called. let c : ℕ = 0 in search rules) 0 c.from_fn.result 766 c.from_fn.ensures.items k h
    ∙ ap (λ (target : ℕ). c.args.w * target) (at_table G 766 c.args.targets c.requires.1 k h))
