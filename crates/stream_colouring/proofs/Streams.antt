-- Colouring a stream piece by piece: what was read and written so far.
use mathlib.Core.Path.{◌≡◌, refl, sym, ap, subst, ◌∙◌}
use mathlib.Core.Bool.{true}
use mathlib.Core.List.{List, [], ◌++◌, map}
use Rattle.std.proofs.lemmas.List.{map-append}
use Prim.Native.Nat.{ℕ, ◌-◌, ◌%◌, ◌<◌, ◌≤◌}
use native.Mathlib.Omega.{arith}
use borrow.Author.Tests.{eq-eqb}
use lib.Dec.{eqb}
use lib.ListN.{length, take, length-append}
use Rattle.std.specs.Prelude.{Option, IfSome, Result, Ok, Err}
use Rattle.std.specs.Io.KnownBytes.{Consumes, Appends, IsAtEnd}
use Rattle.std.proofs.KnownBytes.{Consumes-nil, Consumes-trans, Appends-nil, Appends-trans}
use Rattle.tables.specs.Table.{at}
use Rattle.pixel.specs.Move.{intensity}
use Rattle.pixel.specs.Strip.{is_whole, pixels_of, bytes_of}
use Rattle.pixel.specs.declared.Pixel.{Pixel}
use Rattle.pixel.proofs.Strips.{whole_means}
use Rattle.settings.specs.Setting.{written_under}
use Rattle.colouring.specs.Colouring.{each_pixel, coloured_under}
use Rattle.pieces.specs.Pieces.{piece_length}
use Rattle.pieces.specs.declared.Failure.{Failure}
use Rattle.pieces.specs.declared.Failure.TheVariants.{Refused, NotRead, NotWritten}
use Rattle.pieces.proofs.Known.{of_known, all_of}
use Rattle.pieces.proofs.Pieces.{pixels_append, pixels_of_whole, bytes_append}
use Rattle.stream_colouring.specs.Inner.{coloured_by, Writes, Stands}
use Rattle.stream_colouring.specs.declared.grade.Grade.{Grade}

-- whole pixels at the front of a strip are changed as a strip of their own
pub each_append : (change : Pixel → Pixel) (strip rest : List ℕ) → length strip % 3 ≡ 0
    → each_pixel change (strip ++ rest) ≡ each_pixel change strip ++ each_pixel change rest
each_append change strip rest whole =
    ap (λ (ps : List Pixel). bytes_of (map change ps)) (pixels_append strip rest whole)
    ∙ ap bytes_of (map-append change (pixels_of strip) (pixels_of rest))
    ∙ bytes_append (map change (pixels_of strip)) (map change (pixels_of rest))

-- whether bytes are left over beside the whole pixels
pub is_whole_lem : (piece : List ℕ) → length piece ≤ length piece - length piece % 3 → is_whole (length piece) ≡ true
is_whole_lem piece none = eq-eqb _ _ (omega (arith, none))

pub left_over : (piece : List ℕ) → length piece - length piece % 3 < length piece → is_whole (length piece) ≡ true → ⊥
left_over piece some whole = omega (arith, some, whole_means (length piece) whole)

-- a piece that bytes are left over of is not full
not_full : (piece : List ℕ) → length piece ≤ piece_length → (is_whole (length piece) ≡ true → ⊥) → length piece < piece_length
not_full piece few some = ≤_but (length piece) few (λ is. some (eq-eqb _ _ (omega (arith, is))))
  where
    ≤_but : (n : ℕ) → n ≤ piece_length → (n ≡ piece_length → ⊥) → n < piece_length
    ≤_but n le ne = omega (arith, le, ne)

module _ (grade : Grade) where
  -- so they are coloured
  pub coloured_append : (strip rest : List ℕ) → length strip % 3 ≡ 0
      → coloured_by grade (strip ++ rest) ≡ coloured_by grade strip ++ coloured_by grade rest
  unfolding coloured_under
  coloured_append = each_append (λ p. written_under grade.setting grade.method (at grade.entries (intensity p)) p)

  -- and bytes that are left over are not
  pub coloured_whole : (strip : List ℕ) → coloured_by grade (take (length strip - length strip % 3) strip) ≡ coloured_by grade strip
  unfolding coloured_under
  coloured_whole strip =
      ap (λ (ps : List Pixel). bytes_of (map (λ p. written_under grade.setting grade.method (at grade.entries (intensity p)) p) ps))
      (pixels_of_whole strip)

  -- what was written of a piece is the piece, coloured
  pub piece_wrote : (piece : List ℕ) (old new : Option (List ℕ)) (bytes : List ℕ)
      → bytes ≡ coloured_by grade (take (length piece - length piece % 3) piece) → Appends old new bytes → Appends old new (coloured_by grade piece)
  piece_wrote piece old new bytes is = subst (Appends old new) (is ∙ coloured_whole piece)

  -- before the first piece nothing was read or written
  pub starts : (left written : Option (List ℕ)) → Stands grade left left written written
  unfolding coloured_under
  starts left written = record { done = []; read = Consumes-nil left; whole = refl; wrote = Appends-nil written }

  -- A turn: so much was read and written before, the piece is read, and it is written as its answer says.
  module _ (stream left rest old mid new : Option (List ℕ)) (piece : List ℕ) (stands : Stands grade stream left old mid)
      (read : Consumes left rest piece) where
    -- what was read of the stream, and what was written for it
    all_read : Consumes stream rest (stands.done ++ piece)
    all_read = Consumes-trans _ _ _ _ _ stands.read read

    all_wrote : Appends mid new (coloured_by grade piece) → Appends old new (coloured_by grade (stands.done ++ piece))
    all_wrote wrote =
        subst (Appends old new) (sym (coloured_append stands.done piece stands.whole)) (Appends-trans _ _ _ _ _ stands.wrote wrote)

    -- a full piece goes on
    pub goes_on : length piece ≡ piece_length → Appends mid new (coloured_by grade piece) → Stands grade stream rest old new
    goes_on full wrote =
        record {
          done = stands.done ++ piece;
          read = all_read;
          whole = omega (arith, length-append stands.done piece, stands.whole, full);
          wrote = all_wrote wrote;
        }

    -- what is whole, the piece or all that was read, the other is too
    piece_whole : is_whole (length piece) ≡ is_whole (length (stands.done ++ piece))
    piece_whole =
        ap (λ (n : ℕ). eqb n 0) (omega (arith, length-append stands.done piece, stands.whole))

    -- the last piece ends the stream as its own answer says
    last_writes : (answer : Result (Unit {0}) Failure) → Writes grade piece mid new answer → Writes grade (stands.done ++ piece) old new answer
    last_writes (Ok _) (whole, wrote) = (sym piece_whole ∙ whole, all_wrote wrote)
    last_writes (Err (Refused number)) (is, some, wrote) = (is, λ whole. some (piece_whole ∙ whole), all_wrote wrote)
    last_writes (Err NotRead) writes = tt
    last_writes (Err NotWritten) writes = tt

    pub ends_with : IsAtEnd rest → (answer : Result (Unit {0}) Failure) → Writes grade piece mid new answer
        → IfSome stream (λ s. Writes grade s old new answer)
    ends_with end answer writes = all_of stream rest (stands.done ++ piece) all_read end (λ s. Writes grade s old new answer) (last_writes answer writes)

    -- a failure does, since only the last piece may be refused
    pub fails_with : length piece ≤ piece_length → (length piece < piece_length → IsAtEnd rest) → (failure : Failure)
        → Writes grade piece mid new (Err failure) → IfSome stream (λ s. Writes grade s old new (Err failure))
    fails_with few ended NotRead writes = of_known stream (λ s. tt)
    fails_with few ended NotWritten writes = of_known stream (λ s. tt)
    fails_with few ended (Refused number) writes =
        let less : length piece < piece_length = not_full piece few writes.1 in
        ends_with (ended less) (Err (Refused number)) writes
