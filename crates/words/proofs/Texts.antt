-- What `==` on two texts answers.
use mathlib.Core.Path.{◌≡◌, refl}
use mathlib.Core.Bool.{Bool, true, false, ◌&&◌}
use mathlib.Core.List.{List, [], ◌∷◌}
use Prim.Native.Nat.{ℕ, suc}
use native.Mathlib.Omega.{arith}
use borrow.Author.Tests.{ne_eqb}
use Prim.Native.Nat.compare.{suc-suc}
use lib.Dec.{eqb}
use lib.ListN.{length, get_or}
use Rattle.std.specs.Str.{bytes_eq}
use Rattle.scanning.specs.Scanning.{same_bytes}
use Rattle.scanning.proofs.Texts.{same_is_eq}

-- It is whether the two are the same, also where the second is a text that is known.
pub same_answer : (a : List ℕ) {b text : List ℕ} {answer : Bool} → answer ≡ bytes_eq a b → b ≡ text → same_bytes a text ≡ answer
same_answer a {b} {text} {answer} is known = rw (is, known) (same_is_eq a text)

-- whether the bytes of a text stand in a run from a place on
abbrev pub stands_at : List ℕ → ℕ → List ℕ → Bool
stands_at run place [] = true
stands_at run place (byte ∷ text) = eqb (get_or run place 0) byte && stands_at run (suc place) text

stands_next : (first : ℕ) (run : List ℕ) (place : ℕ) (text : List ℕ) → stands_at (first ∷ run) (suc place) text ≡ stands_at run place text
stands_next first run place [] = refl
stands_next first run place (byte ∷ text) = rw (stands_next first run (suc place) text) refl

swapped : (a b c : Bool) → (a && (b && c)) ≡ (b && (a && c))
swapped true b c = refl
swapped false true c = refl
swapped false false c = refl

-- A text that is looked at byte by byte.
abbrev pub same_by_bytes : List ℕ → List ℕ → Bool
same_by_bytes run text = eqb (length run) (length text) && stands_at run 0 text

pub same_is_by_bytes : (run text : List ℕ) → same_bytes run text ≡ same_by_bytes run text
unfolding same_bytes
same_is_by_bytes [] [] = refl
same_is_by_bytes [] (y ∷ ys) = rw (ne_eqb 0 (length (y ∷ ys)) (λ same. omega arith)) refl
same_is_by_bytes (x ∷ xs) [] = rw (ne_eqb (length (x ∷ xs)) 0 (λ same. omega arith)) refl
same_is_by_bytes (x ∷ xs) (y ∷ ys) =
    rw (same_is_by_bytes xs ys, stands_next x xs 0 ys, suc-suc (length xs) (length ys))
    (swapped (eqb x y) (eqb (length xs) (length ys)) (stands_at xs 0 ys))
