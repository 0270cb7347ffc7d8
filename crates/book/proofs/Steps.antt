-- The book after some steps of the list.
use mathlib.Core.Path.{◌≡◌, refl, sym, ap, ◌∙◌, subst}
use mathlib.Core.Bool.{Bool, true, false, cond, true≢false, false≢true}
use mathlib.Core.List.Memᴰ
use mathlib.Core.List.{List, [], ◌∷◌, ◌++◌, append_assoc, append-nil}
use mathlib.Core.Logic.{⊎_elim}
use mathlib.Core.Option.{Option, none, some}
use Prim.Native.Nat.{ℕ, suc, ◌≤◌, ◌<◌}
use native.Mathlib.Omega.{arith}
use borrow.Author.Tests.{eqb-true, eq-eqb, ne_eqb}
use lib.Dec.{eqb}
use Rattle.tables.specs.Table.{◌among◌}
use Rattle.tables.proofs.Cases.{cond_same}
use Rattle.curve.specs.Curve.{curve_of}
use Rattle.book.specs.Accuracy.{strip_of, strips_measured, FixedBy}
use Rattle.book.specs.Book.{Call, Call.opening, Call.measuring, Call.fixing, Call.colouring, Book, empty_book, expected_answer, entered, book_step}
use Rattle.book.specs.Run.{Step, number, is_opening}
use Rattle.book.proofs.Represents.{no_curve, some_same}

-- an opening empties the book
book_opened : (b : Book) (c : Call) → is_opening c ≡ true → book_step b c ≡ empty_book
book_opened b opening o = refl
book_opened b (measuring strip) o = absurd (false≢true o)
book_opened b (fixing choice) o = absurd (false≢true o)
book_opened b (colouring q) o = absurd (false≢true o)

-- of the other calls an accepted measuring adds its strip, and nothing else changes those held
entered_strips : (b : Book) (c : Call) → is_opening c ≡ false → (entered b c).strips ≡ b.strips ++ strip_of c
entered_strips b opening o = absurd (true≢false o)
entered_strips b (measuring strip) o = refl
entered_strips b (fixing choice) o = simp append-nil
entered_strips b (colouring q) o = simp append-nil

-- and a refused one adds none
book_strips : (b : Book) (c : Call) → is_opening c ≡ false
    → (book_step b c).strips ≡ b.strips ++ cond (eqb (expected_answer b c) 0) (strip_of c) []
book_strips b c o = go (eqb (expected_answer b c) 0)
  where
    go : (t : Bool) → (cond t (entered b c) b).strips ≡ b.strips ++ cond t (strip_of c) []
    go true = entered_strips b c o
    go false = simp append-nil

-- a book with a curve stays as it is until the next opening
book_stays : (b : Book) (c : Call) (curve : List ℕ) → is_opening c ≡ false → b.curve ≡ some curve → book_step b c ≡ b
book_stays b opening curve o e = absurd (true≢false o)
book_stays b (measuring strip) curve o e = simp e
book_stays b (fixing choice) curve o e = simp e
book_stays b (colouring q) curve o e = cond_same (eqb (expected_answer b (colouring q)) 0) b

-- c is a fixing that makes this curve from the strips of the book b, and leaves these in the book d
record Made (b d : Book) (c : Call) (curve : List ℕ) : Type 0 where
  choice : ℕ
  call : c ≡ fixing choice
  strips : d.strips ≡ b.strips
  made : curve ≡ curve_of choice b.strips

-- a call that brings a curve into the book is such a fixing
entered_made : (b : Book) (c : Call) (curve : List ℕ) → b.curve ≡ none → (entered b c).curve ≡ some curve → Made b (entered b c) c curve
entered_made b opening curve n e = absurd (no_curve e)
entered_made b (measuring strip) curve n e = absurd (no_curve (sym n ∙ e))
entered_made b (fixing choice) curve n e = record { choice = choice; call = refl; strips = refl; made = sym (some_same e) }
entered_made b (colouring q) curve n e = absurd (no_curve (sym n ∙ e))

-- and accepted
book_made : (b : Book) (c : Call) (curve : List ℕ) → b.curve ≡ none → (book_step b c).curve ≡ some curve
    → (expected_answer b c ≡ 0) × Made b (book_step b c) c curve
book_made b c curve n = go (eqb (expected_answer b c) 0) refl
  where
    go : (t : Bool) → eqb (expected_answer b c) 0 ≡ t → (cond t (entered b c) b).curve ≡ some curve
        → (expected_answer b c ≡ 0) × Made b (cond t (entered b c) b) c curve
    go true z e = (eqb-true (expected_answer b c) 0 z, entered_made b c curve n e)
    go false z e = absurd (no_curve (sym n ∙ e))

-- strips measured in one run of steps and then another
measured_append : (n : ℕ) (ts us : List Step) → strips_measured n (ts ++ us) ≡ strips_measured n ts ++ strips_measured n us
measured_append n [] us = refl
measured_append n (t ∷ ts) us = simp (measured_append n ts us, append_assoc)

-- steps of earlier shots measured nothing for a later one
measured_none : (n : ℕ) (ts : List Step) → ((t : Step) → t among ts → t.openings < n) → strips_measured n ts ≡ []
measured_none n [] less = refl
measured_none n (t ∷ ts) less =
    simp (
      ne_eqb t.openings n (λ e. omega (arith, less t (Memᴰ.head refl))),
      measured_none n ts (λ u m. less u (Memᴰ.tail m)),
    )

-- b is the book after these steps, n of which are openings
pub record BookAfter (n : ℕ) (b : Book) (steps : List Step) : Type 0 where
  -- none of them has more openings before it
  pub openings : (u : Step) → u among steps → u.openings ≤ n
  -- the book's strips are those that they measured, and its curve is one that they made
  pub strips : b.strips ≡ strips_measured n steps
  pub fixed : (curve : List ℕ) → b.curve ≡ some curve → FixedBy n steps curve
  -- a curve of the same shot is still the book's
  pub kept : (u : Step) → u among steps → u.openings ≡ n → (curve : List ℕ) → u.book.curve ≡ some curve → b.curve ≡ some curve

-- before the first call
pub after_none : BookAfter 0 empty_book []
after_none = record {
  openings = λ u m. absurd (Memᴰ.not-nil m);
  strips = refl;
  fixed = λ curve e. absurd (no_curve e);
  kept = λ u m. absurd (Memᴰ.not-nil m);
}

-- one step more
module _ {n : ℕ} {b : Book} {steps : List Step} (h : BookAfter n b steps) (s : Step) (first : s.openings ≡ n) (book : s.book ≡ b)
    (answer : number s ≡ expected_answer b s.call) where
  -- the steps with this one
  abbrev more : List Step
  more = steps ++ (s ∷ [])

  -- what holds of the steps so far and of this one holds of all
  one_more : (P : Step → Type 0) → ((u : Step) → u among steps → P u) → P s → (u : Step) → u among more → P u
  one_more P old new u m =
      ⊎_elim (λ (k : u among steps). old u k) (λ (k : u among (s ∷ [])). subst P (sym (Memᴰ.eq_of_singleton k)) new)
      (Memᴰ.append_cases steps m)

  -- an opening puts a new shot in its place
  after_opening : BookAfter (suc n) empty_book more
  after_opening =
      let less = one_more (λ (u : Step). u.openings < suc n) (λ u m. omega (arith, h.openings u m)) (omega arith) in
      record {
        openings = λ u m. omega (arith, less u m);
        strips = sym (measured_none (suc n) more less);
        fixed = λ curve e. absurd (no_curve e);
        kept = λ u m e. absurd (omega (arith, less u m));
      }

  -- every other call goes on with the same shot
  module _ (same : is_opening s.call ≡ false) where
    -- the book after the call
    abbrev next : Book
    next = book_step b s.call

    -- the strips held are those measured
    strips_more : next.strips ≡ strips_measured n more
    strips_more =
        book_strips b s.call same
        ∙ sym (measured_append n steps (s ∷ []) ∙ simp (eq-eqb s.openings n first, answer, sym h.strips, append-nil))

    -- a curve stays
    curve_stays : (curve : List ℕ) → b.curve ≡ some curve → next.curve ≡ some curve
    curve_stays curve e = ap (λ (d : Book). d.curve) (book_stays b s.call curve same e) ∙ e

    -- and was made by an accepted fixing, this one or one before
    fixed_more : (had : Option (List ℕ)) → b.curve ≡ had → (curve : List ℕ) → next.curve ≡ some curve → FixedBy n more curve
    fixed_more none none_yet curve e =
        let (accepted, m) = book_made b s.call curve none_yet e in
        record {
          fix = s;
          member = Memᴰ.append_right steps (Memᴰ.head refl);
          same_shot = first;
          choice = m.choice;
          call = m.call;
          accepted = answer ∙ accepted;
          made = m.made ∙ ap (curve_of m.choice) (sym m.strips ∙ strips_more);
        }
    fixed_more (some old) has curve e =
        let unchanged = book_stays b s.call old same has in
        let f = h.fixed curve (sym (ap (λ (d : Book). d.curve) unchanged) ∙ e) in
        record {
          fix = f.fix;
          member = Memᴰ.append_left (s ∷ []) f.member;
          same_shot = f.same_shot;
          choice = f.choice;
          call = f.call;
          accepted = f.accepted;
          made = f.made ∙ ap (curve_of f.choice) (sym h.strips ∙ sym (ap (λ (d : Book). d.strips) unchanged) ∙ strips_more);
        }

    -- what the book holds after the call
    after_others : BookAfter n next more
    after_others = record {
      openings = one_more (λ (u : Step). u.openings ≤ n) h.openings (omega arith);
      strips = strips_more;
      fixed = fixed_more b.curve refl;
      kept =
          one_more (λ (u : Step). u.openings ≡ n → (curve : List ℕ) → u.book.curve ≡ some curve → next.curve ≡ some curve)
          (λ u m e curve c. curve_stays curve (h.kept u m e curve c))
          (λ e curve c. curve_stays curve (ap (λ (d : Book). d.curve) (sym book) ∙ c));
    }

  -- after any call
  pub after_more : BookAfter (cond (is_opening s.call) (suc n) n) (book_step b s.call) more
  after_more = go (is_opening s.call) refl
    where
      go : (o : Bool) → is_opening s.call ≡ o → BookAfter (cond o (suc n) n) (book_step b s.call) more
      go true o = subst (λ (d : Book). BookAfter (suc n) d more) (sym (book_opened b s.call o)) after_opening
      go false o = after_others o
