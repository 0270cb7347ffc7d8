-- `stream_curve::fixed_bytes` meets its contract.
use Rattle.std.proofs.Common.{ap, sym, ◌∙◌}
use Rattle.curve_bytes.specs.CurveBytes.{curve_bytes}
use Rattle.shot.specs.declared.Answer.{Answer}
use Rattle.stream_curve.proofs.Fixing.{handed, none_refused, some_accepted}
use Rattle.stream_curve.proofs.fixed_bytes.Goals as goal

pub returns-in_default : goal.returns-in_default
returns-in_default c =
    let is = ap (λ (a : Answer). handed a.shot) c.fix-answer.ensures in
    let same = ap (λ (a : Answer). a.number) (sym c.fix-answer.ensures) in
    (same, λ ok. none_refused c.args.shot c.args.choice c.requires (sym c.in_default.is ∙ c.curve_of.ensures ∙ is) (same ∙ ok))

pub returns : goal.returns
returns c =
    let is = ap (λ (a : Answer). handed a.shot) c.fix-answer.ensures in
    let (ok, same) = some_accepted c.args.shot c.args.choice c.requires c.in-Some.curve (sym c.in-Some.is ∙ c.curve_of.ensures ∙ is) in
    (ok, c.write_curve.ensures ∙ ap curve_bytes same)
