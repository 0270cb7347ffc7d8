-- A stream, coloured in pieces.
use Rattle.std.specs.Prelude.{◌≡◌, List, map, ℕ}
use Rattle.tables.specs.Table.{◌among◌}
use Rattle.pieces.specs.Pieces.{joined, EachWhole}
use Rattle.stream_colouring.specs.StreamColour.{StreamCall, StreamColour, stream_colour}

-- What colouring a piece leaves, by the curve, method and setting of a call.
abbrev pub coloured_piece : StreamCall → List ℕ → StreamColour
coloured_piece c piece = stream_colour (record { curve = c.curve; method = c.method; setting = c.setting; stream = piece })

-- Claim: pieces that are whole pixels come to the same, coloured one by one or put together. Proved: proofs/Cutting.antt,
-- `any_cutting_colours_alike`.
pub record AnyCuttingColoursAlike : Type 0 where
  -- each is accepted, or refused, as all of them together are
  pub number : (c : StreamCall) (pieces : List (List ℕ)) → EachWhole pieces → (piece : List ℕ) → piece among pieces
      → (coloured_piece c piece).number ≡ (coloured_piece c (joined pieces)).number
  -- and what they leave, put together, is what all of them leave
  pub bytes : (c : StreamCall) (pieces : List (List ℕ)) → EachWhole pieces
      → joined (map (λ piece. (coloured_piece c piece).bytes) pieces) ≡ (coloured_piece c (joined pieces)).bytes
