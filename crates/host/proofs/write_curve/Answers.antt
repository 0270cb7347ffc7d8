-- `host::write_curve` meets its contract.
use mathlib.Core.Path.{◌≡◌, ap, ◌∙◌}
use mathlib.Core.Bool.{true}
use mathlib.Core.List.{List}
use Prim.Native.Nat.{ℕ}
use native.Mathlib.Omega.{arith}
use borrow.Author.Tests.{eq-eqb, ne_eqb}
use lib.ListN.{length}
use Rattle.std.proofs.Common.{Ok, Err, refl}
use Rattle.std.proofs.lemmas.Result.{err_from_is_err_and}
use Rattle.refusal.specs.Numbers.{refusal_number}
use Rattle.refusal.specs.declared.Refusal.{Refusal}
use Rattle.refusal.proofs.Numbers.{refusals_are_numbered}
use Rattle.curve.specs.Choices.{choice_number, is_choice, choice_of}
use Rattle.curve.specs.declared.Choice.{Choice}
use Rattle.curve.proofs.Numbers.{choices_are_numbered}
use Rattle.strip_curve.specs.OneStrip.{strip_answer, strip_curve}
use Rattle.strip_curve.proofs.Laws.{made_number, made_curve}
use Rattle.curve_bytes.specs.CurveBytes.{curve_length, curve_bytes}
use Rattle.host.specs.Host.{CurveCall, curve_outcome}
use Rattle.host.proofs.write_curve.Goals as goal

-- Where choice and length are right, the strip decides.
module _ (c : CurveCall) (choice : Choice) (known : (is_choice c.choice ≡ true) × (choice ≡ choice_of c.choice)) (sized : length c.curve ≡ curve_length) where
  refused : (refusal : Refusal) → strip_answer (Err refusal) ≡ strip_curve choice c.strip
      → curve_outcome c ≡ record { number = refusal_number refusal; bytes = c.curve }
  unfolding curve_outcome
  refused refusal is =
      rw (
        known.0,
        eq-eqb (length c.curve) curve_length sized,
        ← made_number choice c.strip (Err refusal) is,
        ne_eqb (refusal_number refusal) 0 (λ z. omega (arith, z, refusals_are_numbered.above refusal)),
      )

  accepted : (entries bytes : List ℕ) → strip_answer (Ok entries) ≡ strip_curve choice c.strip → bytes ≡ curve_bytes entries
      → curve_outcome c ≡ record { number = 0; bytes = bytes }
  unfolding curve_outcome
  accepted entries bytes is written =
      let named : choice_number choice ≡ c.choice = ap choice_number known.1 ∙ choices_are_numbered.only c.choice known.0 in
      rw (
        known.0,
        eq-eqb (length c.curve) curve_length sized,
        ← made_number choice c.strip (Ok entries) is,
        written,
        made_curve choice c.strip (Ok entries) is entries refl,
        named,
      )

pub returns-in_err-entries : goal.returns-in_err-entries
returns-in_err-entries c =
    let p = err_from_is_err_and c.from_residual-in_err-entries.result c.from_residual-in_err-entries.ensures.1 in
    rw (p.1, p.2, c.in-Some.ensures.cases.same)
    (refused (record { strip = c.args.strip.now; choice = c.args.choice; curve = c.args.bytes.now }) _ c.in_ok-choice.ensures
    c.in-Some.ensures.cases.long
    _
    c.in_err-entries.ensures)

pub returns : goal.returns
returns c =
    accepted (record { strip = c.args.strip.now; choice = c.args.choice; curve = c.args.bytes.now }) _ c.in_ok-choice.ensures
    c.in-Some.ensures.cases.long
    _
    _
    c.in_ok-entries.ensures
    c.write_curve.ensures
