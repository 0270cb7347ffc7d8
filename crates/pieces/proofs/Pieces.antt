-- Laws of a stream's pieces.
use mathlib.Core.Path.{◌≡◌, refl, ap, subst, ◌∙◌}
use mathlib.Core.List.{List, [], ◌∷◌, ◌++◌, append-nil}
use Prim.Native.Nat.{ℕ, zero, suc, ◌-◌, ◌/◌, ◌%◌, ◌<◌}
use native.Mathlib.Omega.{arith}
use lib.ListN.{length, take, drop, length-append}
use Rattle.std.proofs.lemmas.List.{take-append-drop}
use Rattle.std.proofs.Math.Seq.{take-append_seam, drop-append_seam}
use Rattle.pixel.specs.Strip.{pixels_of, bytes_of}
use Rattle.pixel.specs.declared.Pixel.{Pixel}
use Rattle.pieces.specs.Pieces.{piece_length, first_pieces, pieces_of, joined, PiecesAreTheStream}

first_joined : (n : ℕ) (stream : List ℕ) → joined (first_pieces n stream) ≡ stream
first_joined zero stream = append-nil stream
first_joined (suc n) stream =
    ap (λ (rest : List ℕ). take piece_length stream ++ rest) (first_joined n (drop piece_length stream)) ∙ take-append-drop piece_length stream

pub pieces_are_the_stream : PiecesAreTheStream
unfolding pieces_of
pieces_are_the_stream stream = first_joined (length stream / piece_length) stream

-- a stream that is less than a piece is its only piece
pub last_piece : (stream : List ℕ) → length stream < piece_length → pieces_of stream ≡ stream ∷ []
unfolding pieces_of
last_piece stream less = let none : length stream / piece_length ≡ 0 = omega (arith, less) in rw none refl

-- a full piece comes first, and what follows it has the other pieces
pub full_piece : (piece rest : List ℕ) → length piece ≡ piece_length → pieces_of (piece ++ rest) ≡ piece ∷ pieces_of rest
unfolding pieces_of
full_piece piece rest full =
    let count : length (piece ++ rest) / piece_length ≡ suc (length rest / piece_length) = omega (arith, length-append piece rest, full) in
    let front : take piece_length (piece ++ rest) ≡ piece = subst (λ (n : ℕ). take n (piece ++ rest) ≡ piece) full (take-append_seam piece rest) in
    let back : drop piece_length (piece ++ rest) ≡ rest = subst (λ (n : ℕ). drop n (piece ++ rest) ≡ rest) full (drop-append_seam piece rest) in
    rw (count, front, back) refl

-- whole pixels at the front of a strip are its first pixels
pub pixels_append : (strip rest : List ℕ) → length strip % 3 ≡ 0 → pixels_of (strip ++ rest) ≡ pixels_of strip ++ pixels_of rest
pixels_append [] rest whole = refl
pixels_append (r ∷ []) rest whole = absurd (omega arith)
pixels_append (r ∷ g ∷ []) rest whole = absurd (omega arith)
pixels_append (r ∷ g ∷ b ∷ strip) rest whole =
    ap (λ (l : List Pixel). record { r = r; g = g; b = b } ∷ l) (pixels_append strip rest (omega arith))

-- the bytes that are left over make no pixel
pub pixels_of_whole : (strip : List ℕ) → pixels_of (take (length strip - length strip % 3) strip) ≡ pixels_of strip
pixels_of_whole [] = refl
pixels_of_whole (r ∷ []) = refl
pixels_of_whole (r ∷ g ∷ []) = refl
pixels_of_whole (r ∷ g ∷ b ∷ rest) =
    let size : suc (suc (suc (length rest))) - suc (suc (suc (length rest))) % 3 ≡ suc (suc (suc (length rest - length rest % 3))) = omega arith in
    rw size (ap (λ (l : List Pixel). record { r = r; g = g; b = b } ∷ l) (pixels_of_whole rest))

-- the strip of more pixels
pub bytes_append : (ps qs : List Pixel) → bytes_of (ps ++ qs) ≡ bytes_of ps ++ bytes_of qs
bytes_append [] qs = refl
bytes_append (p ∷ ps) qs = ap (λ (l : List ℕ). p.r ∷ p.g ∷ p.b ∷ l) (bytes_append ps qs)
