-- A shot that was not fixed is fixed afterwards just where fixing was accepted.
use mathlib.Core.Path.{◌≡◌, refl, sym, ap, ◌∙◌}
use mathlib.Core.Bool.{Bool, true, false}
use mathlib.Core.List.{List}
use Prim.Native.Nat.{ℕ}
use lib.Dec.{eqb}
use borrow.Author.Tests.{eqb-true, eqb-false}
use Rattle.std.proofs.lemmas.Option.{none-some}
use Rattle.std.specs.Prelude.{Option, cond, Some, None}
use Rattle.refusal.proofs.Laws.{accepted_leaves, refused_leaves}
use Rattle.shot.specs.Kept.{entries}
use Rattle.shot.specs.Shot.{with_curve, fixed_with}
use Rattle.shot.specs.declared.Shot.{Shot}

-- the curve that a shot hands out
abbrev pub handed : Shot → Option (List ℕ)
handed x = cond x.fixed (Some x.curve) None

module _ (x : Shot) (choice : ℕ) (unfixed : x.fixed ≡ false) where
  -- an accepted fixing fixes it
  accepted_fixed : (fixed_with x choice).number ≡ 0 → (fixed_with x choice).shot.fixed ≡ true
  unfolding fixed_with
  accepted_fixed ok = ap (λ (y : Shot). y.fixed) (accepted_leaves (fixed_with x choice).number (with_curve x choice) x ok)

  -- a refused one does not
  refused_unfixed : ((fixed_with x choice).number ≡ 0 → ⊥) → (fixed_with x choice).shot.fixed ≡ false
  unfolding fixed_with
  refused_unfixed refused = ap (λ (y : Shot). y.fixed) (refused_leaves (fixed_with x choice).number (with_curve x choice) x refused) ∙ unfixed

  -- so where it has no curve afterwards, fixing was refused,
  pub none_refused : None ≡ handed (fixed_with x choice).shot → (fixed_with x choice).number ≡ 0 → ⊥
  none_refused is ok = none-some (fixed_with x choice).shot.curve (is ∙ rw (accepted_fixed ok) refl)

  -- and where it has one, it was accepted, and the curve is the shot's
  pub some_accepted : (curve : List ℕ) → Some curve ≡ handed (fixed_with x choice).shot
      → ((fixed_with x choice).number ≡ 0) × (curve ≡ (fixed_with x choice).shot.curve)
  unfolding entries
  some_accepted curve is = go (eqb (fixed_with x choice).number 0) refl
    where
      go : (t : Bool) → eqb (fixed_with x choice).number 0 ≡ t → ((fixed_with x choice).number ≡ 0) × (curve ≡ (fixed_with x choice).shot.curve)
      go true e =
          let ok = eqb-true _ _ e in
          let some : handed (fixed_with x choice).shot ≡ Some (fixed_with x choice).shot.curve = rw (accepted_fixed ok) refl in
          (ok, ap entries (is ∙ some))
      go false e =
          let none : handed (fixed_with x choice).shot ≡ None = rw (refused_unfixed (eqb-false _ _ e)) refl in
          absurd (none-some curve (sym (is ∙ none)))
