-- A stream is a run of bytes of any length, three to a pixel, as a strip is: raw packed RGB. It is taken in pieces.
use Rattle.std.specs.Prelude.{◌≡◌, true, List, [], ◌∷◌, ◌++◌, ℕ, zero, suc, ◌/◌, take, drop, length}
use Rattle.tables.specs.Table.{◌among◌}
use Rattle.pixel.specs.Strip.{is_whole}

-- A piece has at most so many bytes: 65,536 pixels.
abbrev pub piece_length : ℕ
piece_length = 196608

-- The first n pieces of a stream, and all that follows them as the last.
abbrev pub first_pieces : ℕ → List ℕ → List (List ℕ)
first_pieces zero stream = stream ∷ []
first_pieces (suc n) stream = take piece_length stream ∷ first_pieces n (drop piece_length stream)

-- The pieces of a stream: as many full ones as it has, and then what is left, which may be no byte.
unfoldable pub pieces_of : List ℕ → List (List ℕ)
pieces_of stream = first_pieces (length stream / piece_length) stream

-- Pieces put together.
abbrev pub joined : List (List ℕ) → List ℕ
joined [] = []
joined (piece ∷ pieces) = piece ++ joined pieces

-- Each piece is made of whole pixels.
abbrev pub EachWhole : List (List ℕ) → Type 0
EachWhole pieces = (piece : List ℕ) → piece among pieces → is_whole (length piece) ≡ true

-- Claim: the pieces of a stream, put together, are the stream. Proved: proofs/Pieces.antt, `pieces_are_the_stream`.
abbrev pub PiecesAreTheStream : Type 0
PiecesAreTheStream = (stream : List ℕ) → joined (pieces_of stream) ≡ stream
