-- Pieces of whole pixels.
use mathlib.Core.Path.{◌≡◌, refl}
use mathlib.Core.Bool.{true}
use mathlib.Core.List.Memᴰ
use mathlib.Core.List.{List, [], ◌∷◌}
use Prim.Native.Nat.{ℕ, ◌%◌}
use native.Mathlib.Omega.{arith}
use lib.ListN.{length, length-append}
use Rattle.pixel.specs.Strip.{is_whole}
use Rattle.pixel.proofs.Strips.{whole_means}
use Rattle.pieces.specs.Pieces.{joined, EachWhole}

-- the first of them is whole
pub first_whole : {piece : List ℕ} {pieces : List (List ℕ)} → EachWhole (piece ∷ pieces) → is_whole (length piece) ≡ true
first_whole {piece} whole = whole piece (Memᴰ.head refl)

-- and so are the others
pub rest_whole : {piece : List ℕ} {pieces : List (List ℕ)} → EachWhole (piece ∷ pieces) → EachWhole pieces
rest_whole whole = λ one m. whole one (Memᴰ.tail m)

-- put together they are whole
pub joined_whole : (pieces : List (List ℕ)) → EachWhole pieces → length (joined pieces) % 3 ≡ 0
joined_whole [] whole = refl
joined_whole (piece ∷ pieces) whole =
    omega (arith, length-append piece (joined pieces), whole_means (length piece) (first_whole whole), joined_whole pieces (rest_whole whole))
