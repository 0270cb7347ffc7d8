-- `curve_bytes::keeps_curve_rule` meets its contract.
use mathlib.Core.Path.{sym, ◌∙◌}
use borrow.Author.Tests.{eqb-true}
use Rattle.curve_bytes.proofs.CurveBytes.{order_decides}
use borrow.Author.Rules.{rules}
use Rattle.curve_bytes.proofs.keeps_curve_rule.Goals as goal
use Rattle.curve_bytes.proofs.keeps_curve_rule.Goals.{then-curve-eq0, else-curve-eq0}

-- Both ends are right: the order decides.
pub returns-then-curve-eq765 : goal.returns-then-curve-eq765
returns-then-curve-eq765 c =
    elim c.if-curve-eq0.branch [
      | then-curve-eq0 w ↦
          let white = eqb-true _ _ (sym w.value-is ∙ c.if-curve-eq765.true) in
          c.none_falls.ensures ∙ order_decides _ (search rules) w.if-curve-eq0.true white
      | else-curve-eq0 w ↦ absurd (w.if-curve-eq0.false (eqb-true _ _ (sym w.value-is ∙ c.if-curve-eq765.true)))
    ]
