-- What each call leaves, taken as a colouring by the book's curve.
use mathlib.Core.Path.{◌≡◌, refl, sym, ap, ap₂, ◌∙◌, subst}
use mathlib.Core.Bool.{Bool, true, false, cond, false≢true}
use mathlib.Core.List.{List, []}
use mathlib.Core.Option.{Option, none, some}
use Prim.Native.Nat.{ℕ, ◌<◌}
use native.Mathlib.Omega.{arith}
use borrow.Author.Tests.{eqb-true}
use lib.Dec.{eqb}
use lib.ListN.{length}
use Rattle.refusal.specs.Refusal.{if_accepted}
use Rattle.tables.proofs.Cases.{cond_same}
use Rattle.pixel.specs.Methods.{method_of}
use Rattle.curve.specs.Curve.{IsToneCurve}
use Rattle.settings.specs.Setting.{SettingInRange}
use Rattle.settings.specs.declared.Setting.{Setting}
use Rattle.dial.proofs.Range.{setting_in_range}
use Rattle.colouring.specs.Colouring.{coloured_under}
use Rattle.colouring.proofs.Written.{Performed}
use Rattle.shot.specs.Shot.{ColourRequest, coloured}
use Rattle.shot.specs.declared.Answer.{Answer}
use Rattle.shot.specs.declared.Shot.{Shot}
use Rattle.shot.proofs.Passed.{colour_passed}
use Rattle.book.specs.Accuracy.{requested, entries, colouring_of}
use Rattle.book.specs.Book.{Call, Call.opening, Call.measuring, Call.fixing, Call.colouring, Book, has_curve}
use Rattle.book.specs.Run.{step, WellFormed}
use Rattle.book.proofs.Reading.{reads}
use Rattle.book.proofs.Represents.{HoldsBook, shape}

-- what is the same where the call is accepted leaves the same
same_left : {A : Type 0} (number : ℕ) (new other old : A) → (number ≡ 0 → new ≡ other)
    → if_accepted number new old ≡ if_accepted number other old
same_left number new other old same = go (eqb number 0) (λ z. same (eqb-true number 0 z))
  where
    go : (t : Bool) → (t ≡ true → new ≡ other) → cond t new old ≡ cond t other old
    go true same = same refl
    go false same = refl

-- a fixed shot's book has a curve
has_some : (o : Option (List ℕ)) → has_curve o ≡ true → (curve : List ℕ) × (o ≡ some curve)
has_some none e = absurd (false≢true e)
has_some (some curve) e = (curve, refl)

module _ {x : Shot} {b : Book} (h : HoldsBook x b) where
  -- the book of an accepted colouring has a curve
  colouring_curve : (q : ColourRequest) → (coloured x q).answer.number ≡ 0 → (curve : List ℕ) × (b.curve ≡ some curve)
  colouring_curve q e = has_some b.curve (sym h.fixed ∙ (colour_passed x q e).is_fixed)

  -- so has that of every accepted call that asks for a pixel
  pub curve_of_call : (c : Call) → (step x c).answer.number ≡ 0 → 0 < length (requested c).source
      → (curve : List ℕ) × (b.curve ≡ some curve)
  curve_of_call opening e l = absurd (omega arith)
  curve_of_call (measuring strip) e l = absurd (omega arith)
  curve_of_call (fixing choice) e l = absurd (omega arith)
  curve_of_call (colouring q) e l = colouring_curve q e

  -- and it is a tone curve
  tone : (c : Call) → (step x c).answer.number ≡ 0 → 0 < length (requested c).source → IsToneCurve (entries b.curve)
  tone c e l =
      let (curve, is) = curve_of_call c e l in
      subst IsToneCurve (sym (ap entries is)) (shape h curve is)

  -- a call that asks for no pixel
  none_asked : (answer : Answer) → Performed (colouring_of b opening (record { answer = answer; bytes = [] }))
  unfolding coloured_under
  none_asked answer = record {
    left = sym (cond_same (eqb answer.number 0) []);
    setting = λ e. tt;
    whole = λ e. refl;
    same = λ e. refl;
    tone = λ e l. absurd (omega arith);
    bytes = λ i. omega arith;
  }

  -- what each call leaves is the source, coloured by the book's curve, or what was there
  pub performed : (c : Call) → WellFormed c → Performed (colouring_of b c (step x c))
  unfolding coloured
  performed opening ok = none_asked (step x opening).answer
  performed (measuring strip) ok = none_asked (step x (measuring strip)).answer
  performed (fixing choice) ok = none_asked (step x (fixing choice)).answer
  performed (colouring q) ok =
      let read = (reads q.dial).setting in
      record {
        left =
            same_left (coloured x q).answer.number _ _ q.destination
            (λ e.
            let (curve, is) = colouring_curve q e in
            ap₂ (λ (s : Setting) (l : List ℕ). coloured_under s (method_of q.method) l q.source) (sym read)
            (h.curve curve is ∙ sym (ap entries is)));
        setting = λ e. subst SettingInRange (sym read) (setting_in_range q.dial);
        whole = λ e. (colour_passed x q e).whole;
        same = λ e. (colour_passed x q e).same;
        tone = tone (colouring q);
        bytes = ok;
      }
