-- Colouring a stream in pieces.
use mathlib.Core.Path.{◌≡◌, refl, sym, ap, ◌∙◌}
use mathlib.Core.Bool.{Bool, true, false, cond}
use mathlib.Core.List.{List, [], ◌∷◌, ◌++◌, map}
use Prim.Native.Nat.{ℕ, ◌%◌}
use borrow.Author.Tests.{eq-eqb}
use lib.Dec.{eqb}
use lib.ListN.{length}
use Rattle.tables.specs.Table.{at, ◌among◌}
use Rattle.pixel.specs.Methods.{method_of}
use Rattle.pixel.specs.Move.{intensity}
use Rattle.pixel.specs.declared.Pixel.{Pixel}
use Rattle.settings.specs.Setting.{written_under}
use Rattle.curve_bytes.specs.CurveBytes.{curve_entries}
use Rattle.colouring.specs.Colouring.{each_pixel, coloured_under}
use Rattle.stream_colouring.specs.Accuracy.{opening}
use Rattle.stream_colouring.proofs.Streams.{each_append}
use Rattle.pixel.proofs.Strips.{whole_means}
use Rattle.pieces.specs.Pieces.{joined, EachWhole}
use Rattle.pieces.proofs.Whole.{first_whole, rest_whole, joined_whole}
use Rattle.stream_colouring.specs.Cutting.{coloured_piece, AnyCuttingColoursAlike}
use Rattle.stream_colouring.specs.StreamColour.{StreamCall, stream_colour}

number : (c : StreamCall) (pieces : List (List ℕ)) → EachWhole pieces → (piece : List ℕ) → piece among pieces
    → (coloured_piece c piece).number ≡ (coloured_piece c (joined pieces)).number
unfolding stream_colour
number c pieces whole piece m =
    rw (whole piece m, eq-eqb (length (joined pieces) % 3) 0 (joined_whole pieces whole)) refl

-- what is changed pixel by pixel is changed piece by piece
each_joined : (change : Pixel → Pixel) (pieces : List (List ℕ)) → EachWhole pieces
    → joined (map (each_pixel change) pieces) ≡ each_pixel change (joined pieces)
each_joined change [] whole = refl
each_joined change (piece ∷ pieces) whole =
    ap (λ (l : List ℕ). each_pixel change piece ++ l) (each_joined change pieces (rest_whole whole))
    ∙ sym (each_append change piece (joined pieces) (whole_means (length piece) (first_whole whole)))

-- and where nothing is written, nothing is put together
either_joined : (accepted : Bool) (change : Pixel → Pixel) (pieces : List (List ℕ)) → EachWhole pieces
    → joined (map (λ piece. cond accepted (each_pixel change piece) []) pieces) ≡ cond accepted (each_pixel change (joined pieces)) []
either_joined true change pieces whole = each_joined change pieces whole
either_joined false change [] whole = refl
either_joined false change (piece ∷ pieces) whole = either_joined false change pieces (rest_whole whole)

bytes : (c : StreamCall) (pieces : List (List ℕ)) → EachWhole pieces
    → joined (map (λ piece. (coloured_piece c piece).bytes) pieces) ≡ (coloured_piece c (joined pieces)).bytes
unfolding stream_colour coloured_under
bytes c pieces whole =
    either_joined (eqb (opening c) 0) (λ p. written_under c.setting (method_of c.method) (at (curve_entries c.curve) (intensity p)) p) pieces whole

pub any_cutting_colours_alike : AnyCuttingColoursAlike
any_cutting_colours_alike = record { number = number; bytes = bytes }
