-- The single move, an outside call (document 01, "Who can cause which refusal": single move 7, 9).
use Rattle.std.specs.Prelude.{not, List, [], ◌∷◌, ℕ, ltb, Result, Ok, Err}
use Rattle.refusal.specs.Refusal.{Check, ◌refuses◌, first_of, if_accepted}
use Rattle.refusal.specs.Numbers.{refusal_number}
use Rattle.refusal.specs.declared.Refusal.{Refusal}
use Rattle.pixel.specs.Methods.{is_method, method_of}
use Rattle.pixel.specs.Move.{moved}
use Rattle.pixel.specs.declared.Pixel.{Pixel}

-- What a single move tells: its number, and a pixel.
pub record Moved : Type 0 where
  pub number : ℕ
  pub pixel : Pixel

-- Single move 7, 9. 7: the method is not 1 or 2. 9: a target above 765.
abbrev pub move_checks : ℕ → ℕ → List Check
move_checks method target = not (is_method method) refuses 7 ∷ ltb 765 target refuses 9 ∷ []

-- Black.
abbrev pub black : Pixel
black = record { r = 0; g = 0; b = 0 }

-- A refused single move hands back black beside its number.
abbrev pub refused_move : ℕ → Moved
refused_move n = record { number = n; pixel = black }

-- An accepted one hands back the moved pixel beside 0.
abbrev pub accepted_move : Pixel → Moved
accepted_move p = record { number = 0; pixel = p }

-- What the call's answer is as a number and a pixel.
abbrev pub move_answer : Result Pixel Refusal → Moved
move_answer (Ok pixel) = accepted_move pixel
move_answer (Err refusal) = refused_move (refusal_number refusal)

-- What the call tells, for every input.
unfoldable pub moved_one : ℕ → Pixel → ℕ → Moved
moved_one method p target =
    let number = first_of (move_checks method target) in
    if_accepted number (accepted_move (moved (method_of method) p target)) (refused_move number)
