-- Measuring a stream piece by piece: where a reader stands, and what is left to measure.
use mathlib.Core.Path.{◌≡◌, refl, sym, ap, ◌∙◌}
use mathlib.Core.Bool.{Bool, true, false}
use mathlib.Core.List.{List, [], ◌∷◌, ◌++◌, append-nil}
use Prim.Native.Nat.{ℕ, ◌<◌, ◌≤◌}
use native.Mathlib.Omega.{arith}
use borrow.Author.Tests.{ltb-true, ltb-false}
use lib.Dec.{ltb}
use lib.ListN.{length}
use Rattle.std.specs.Prelude.{Option, Some, None, IfSome, Ok, Err}
use Rattle.std.specs.Io.KnownBytes.{Consumes, IsAtEnd}
use Rattle.refusal.proofs.Laws.{accepted_leaves, refused_leaves, either_leaves}
use Rattle.shot.specs.Shot.{opened, with_strip, measured}
use Rattle.shot.specs.declared.Answer.{Answer}
use Rattle.shot.specs.declared.Shot.{Shot}
use Rattle.pieces.specs.Pieces.{piece_length, pieces_of}
use Rattle.pieces.specs.declared.Failure.TheVariants.{Refused}
use Rattle.pieces.proofs.Pieces.{last_piece, full_piece}
use Rattle.stream_curve.specs.StreamCurve.{measured_in_turn}
use Rattle.stream_curve.specs.Inner.{Measures, ComesTo}

-- an opened shot is not fixed
pub opened_unfixed : {x : Shot} → x ≡ opened → x.fixed ≡ false
unfolding opened
opened_unfixed is = ap (λ (x : Shot). x.fixed) is

-- measuring leaves a shot unfixed that was not fixed
pub stays_unfixed : (y : Shot) (piece : List ℕ) {answer : Answer} → answer ≡ measured y piece → y.fixed ≡ false → answer.shot.fixed ≡ false
unfolding measured
stays_unfixed y piece is unfixed =
    ap (λ (a : Answer). a.shot.fixed) is
    ∙ either_leaves (measured y piece).number (with_strip y piece) y (λ (z : Shot). z.fixed ≡ false) (λ ok. unfixed) unfixed

-- before the first piece is read, all is left
pub starts : (x y : Shot) → y ≡ x → (stream : Option (List ℕ)) → ComesTo stream x stream y
starts x y is None = tt
starts x y is (Some stream) = ap (λ (z : Shot). measured_in_turn z (pieces_of stream)) is

-- A turn: the shot x has come to y, of the stream this is left, the piece at its front is read, and y's measuring of it gives the answer.
module _ (x y : Shot) (piece : List ℕ) (answer : Answer) (is : answer ≡ measured y piece) where
  -- what the pieces come to, where the shot takes this one
  taken : (others : List (List ℕ)) → answer.number ≡ 0 → measured_in_turn y (piece ∷ others) ≡ measured_in_turn answer.shot others
  taken others ok =
      accepted_leaves (measured y piece).number (measured_in_turn (measured y piece).shot others) (measured y piece)
      (ap (λ (a : Answer). a.number) (sym is) ∙ ok)
      ∙ ap (λ (a : Answer). measured_in_turn a.shot others) (sym is)

  -- and where it does not
  not_taken : (others : List (List ℕ)) → (answer.number ≡ 0 → ⊥) → measured_in_turn y (piece ∷ others) ≡ answer
  not_taken others refused =
      refused_leaves (measured y piece).number (measured_in_turn (measured y piece).shot others) (measured y piece)
      (λ e. refused (ap (λ (a : Answer). a.number) is ∙ e))
      ∙ sym is

  -- a full piece that is taken leaves the shot where the rest begins
  pub goes_on : (stream old new : Option (List ℕ)) → ComesTo stream x old y → Consumes old new piece
      → length piece ≡ piece_length → answer.number ≡ 0 → ComesTo stream x new answer.shot
  goes_on None old new at read full ok = tt
  goes_on (Some stream) None new at read full ok = absurd at
  goes_on (Some stream) (Some left) None at read full ok = absurd read
  goes_on (Some stream) (Some left) (Some rest) at read full ok =
      sym (ap (measured_in_turn y) (ap pieces_of read ∙ full_piece piece rest full) ∙ taken (pieces_of rest) ok) ∙ at

  -- the piece comes first of the pieces of what was left
  first_is : (rest : List ℕ) → length piece ≤ piece_length → (length piece < piece_length → rest ≡ [])
      → (others : List (List ℕ)) × (pieces_of (piece ++ rest) ≡ piece ∷ others)
  first_is rest few ended = go (ltb (length piece) piece_length) refl
    where
      go : (t : Bool) → ltb (length piece) piece_length ≡ t → (others : List (List ℕ)) × (pieces_of (piece ++ rest) ≡ piece ∷ others)
      go true e =
          let less = ltb-true _ _ e in
          ([], ap (λ (l : List ℕ). pieces_of (piece ++ l)) (ended less) ∙ ap pieces_of (append-nil piece) ∙ last_piece piece less)
      go false e = (pieces_of rest, full_piece piece rest (omega (arith, few, ltb-false _ _ e)))

  -- one that is refused is the answer to the stream
  pub refused_by : (stream old new : Option (List ℕ)) → ComesTo stream x old y → Consumes old new piece
      → length piece ≤ piece_length → (length piece < piece_length → IsAtEnd new) → (answer.number ≡ 0 → ⊥)
      → IfSome stream (λ s. Measures (measured_in_turn x (pieces_of s)) (Err (Refused answer.number)))
  refused_by None old new at read few ended refused = tt
  refused_by (Some stream) None new at read few ended refused = absurd at
  refused_by (Some stream) (Some left) None at read few ended refused = absurd read
  refused_by (Some stream) (Some left) (Some rest) at read few ended refused =
      let (others, first) = first_is rest few ended in
      let told = sym at ∙ ap (measured_in_turn y) (ap pieces_of read ∙ first) ∙ not_taken others refused in
      (ap (λ (a : Answer). a.number) told, refused)

  -- and the last one, where it is taken, is the end
  pub ends_with : (stream old new : Option (List ℕ)) → ComesTo stream x old y → Consumes old new piece
      → length piece < piece_length → IsAtEnd new → answer.number ≡ 0
      → IfSome stream (λ s. Measures (measured_in_turn x (pieces_of s)) (Ok answer.shot))
  ends_with None old new at read less ended ok = tt
  ends_with (Some stream) None new at read less ended ok = absurd at
  ends_with (Some stream) (Some left) None at read less ended ok = absurd read
  ends_with (Some stream) (Some left) (Some rest) at read less ended ok =
      let all : left ≡ piece = read ∙ ap (λ (l : List ℕ). piece ++ l) ended ∙ append-nil piece in
      sym at ∙ ap (measured_in_turn y) (ap pieces_of all ∙ last_piece piece less) ∙ taken [] ok
