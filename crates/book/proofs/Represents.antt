-- The shot represents the book after every call.
use mathlib.Core.Path.{◌≡◌, refl, sym, ap, subst, ◌∙◌}
use mathlib.Core.Bool.{Bool, true, false, cond, false≢true}
use mathlib.Core.List.{List, [], ◌∷◌, ◌++◌, append_assoc, append-nil}
use mathlib.Core.Option.{Option, none, some}
use Prim.Native.Nat.{ℕ}
use borrow.Author.Tests.{eqb-true}
use lib.Dec.{eqb}
use Rattle.refusal.specs.Refusal.{if_accepted}
use Rattle.tables.proofs.Cases.{cond_same}
use Rattle.pixel.specs.Strip.{pixels_of, Bytes}
use Rattle.pixel.proofs.Strips.{length_pixels}
use Rattle.measuring.specs.Histogram.{pixels_in}
use Rattle.curve.specs.Curve.{IsToneCurve}
use Rattle.shot.specs.Shot.{opened, with_strip, measured, with_curve, fixed_with, coloured}
use Rattle.shot.specs.declared.Shot.{Shot}
use Rattle.shot.proofs.Holds.{Holds, up_to_of_held, last_of_held, holds_opened, holds_strip, curve_of_strips, holds_curve}
use Rattle.shot.proofs.Passed.{MeasuringAccepted, measure_passed, FixingAccepted, fix_passed}
use Rattle.book.specs.Accuracy.{Represents}
use Rattle.book.specs.Book.{Call, Call.opening, Call.measuring, Call.fixing, Call.colouring, Book, empty_book, has_curve, expected_answer, entered, book_step}
use Rattle.book.specs.Run.{step, WellFormed}
use Rattle.book.proofs.Reading.{reads}

-- the shot holds the book's pixels, and is fixed exactly if the book has a curve, by that curve
pub record HoldsBook (x : Shot) (b : Book) : Type 0 where
  pub holds : Holds x (pixels_in b.strips)
  pub fixed : x.fixed ≡ has_curve b.curve
  pub curve : (c : List ℕ) → b.curve ≡ some c → x.curve ≡ c

-- so it represents the book
pub represents : {x : Shot} {b : Book} → HoldsBook x b → Represents x b
represents h =
    record {
      counts = h.holds.counts;
      pixels = h.holds.pixels;
      up_to = up_to_of_held h.holds;
      last = last_of_held h.holds;
      limit = h.holds.limit;
      fixed = h.fixed;
      curve = h.curve;
    }

-- and the book's curve is a tone curve
pub shape : {x : Shot} {b : Book} → HoldsBook x b → (c : List ℕ) → b.curve ≡ some c → IsToneCurve c
shape h c e = subst IsToneCurve (h.curve c e) (h.holds.curve (h.fixed ∙ ap has_curve e))

-- no curve is not some curve
pub no_curve : {c : List ℕ} → ◌≡◌ {A = Option (List ℕ)} none (some c) → ⊥
no_curve e = false≢true (ap has_curve e)

-- one curve is the other
pub some_same : {c d : List ℕ} → some c ≡ some d → c ≡ d
some_same e = cc

-- an opened shot and an empty book
pub holds_empty_book : HoldsBook opened empty_book
unfolding opened
holds_empty_book = record { holds = holds_opened; fixed = refl; curve = λ c e. absurd (no_curve e) }

-- the program answers as the book has it
pub answers_agree : {x : Shot} {b : Book} → Represents x b → (c : Call) → (step x c).answer.number ≡ expected_answer b c
unfolding measured fixed_with coloured
answers_agree r opening = refl
answers_agree r (measuring strip) = simp (r.fixed, r.pixels, length_pixels strip)
answers_agree r (fixing choice) = simp (r.fixed, r.pixels)
answers_agree r (colouring q) =
    let read = reads q.dial in
    simp (r.fixed, read.stop, read.intensity)

-- one number decides both
both : {x y : Shot} {b d : Book} (n m : ℕ) → n ≡ m → (n ≡ 0 → HoldsBook y d) → HoldsBook x b → HoldsBook (if_accepted n y x) (if_accepted m d b)
both {x} {y} {b} {d} n m e new old = rw e (go (eqb m 0) refl)
  where
    go : (t : Bool) → eqb m 0 ≡ t → HoldsBook (cond t y x) (cond t d b)
    go true z = new (e ∙ eqb-true m 0 z)
    go false z = old

-- a strip that joins those held brings its pixels last
pixels_in_joined : (strips : List (List ℕ)) (strip : List ℕ) → pixels_in (strips ++ (strip ∷ [])) ≡ pixels_in strips ++ pixels_of strip
pixels_in_joined [] strip = simp append-nil
pixels_in_joined (first ∷ strips) strip = simp (pixels_in_joined strips strip, append_assoc)

-- an accepted strip joins the counts and the book
holds_joined : {x : Shot} {b : Book} → HoldsBook x b → (strip : List ℕ) → Bytes strip → MeasuringAccepted x strip
    → HoldsBook (with_strip x strip) (entered b (measuring strip))
holds_joined {x} {b} h strip bytes ok = record {
  holds = subst (Holds (with_strip x strip)) (sym (pixels_in_joined b.strips strip)) (holds_strip h.holds strip bytes ok);
  fixed = h.fixed;
  curve = h.curve;
}

-- an accepted fixing gives both the same curve
holds_fixed : {x : Shot} {b : Book} → HoldsBook x b → (choice : ℕ) → FixingAccepted x choice
    → HoldsBook (with_curve x choice) (entered b (fixing choice))
holds_fixed {x} {b} h choice ok = record {
  holds = holds_curve h.holds choice ok.some;
  fixed = refl;
  curve = λ c e. curve_of_strips b.strips h.holds choice ∙ some_same e;
}

-- each call leaves them so
pub holds_after : {x : Shot} {b : Book} → HoldsBook x b → (c : Call) → WellFormed c → HoldsBook (step x c).answer.shot (book_step b c)
unfolding measured fixed_with coloured
holds_after h opening ok = holds_empty_book
holds_after {x} {b} h (measuring strip) bytes =
    both _ _ (answers_agree (represents h) (measuring strip))
    (λ e. holds_joined h strip bytes (measure_passed x strip e))
    h
holds_after {x} {b} h (fixing choice) ok =
    both _ _ (answers_agree (represents h) (fixing choice))
    (λ e. holds_fixed h choice (fix_passed x choice e))
    h
holds_after {x} {b} h (colouring q) ok = subst (HoldsBook x) (sym (cond_same (eqb (expected_answer b (colouring q)) 0) b)) h
