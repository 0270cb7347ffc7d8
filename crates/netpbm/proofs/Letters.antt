-- The letters P6 at the start.
use Rattle.std.proofs.Common.{◌≡◌, true, List, [], ◌∷◌, ℕ, ◌≤◌, drop, length, refl, ap₂, eqb, arith}
use Rattle.std.specs.List.{starts_with}
use Rattle.std.proofs.lemmas.Bool.Decides.{nat_tests}
use borrow.Author.Tests.{eqb-true}
use Rattle.tables.specs.Table.{at}
use Rattle.std.proofs.lemmas.Bool.{and_parts}
use Rattle.netpbm.specs.Header.{has_letters}
use Rattle.netpbm.proofs.Bytes.{byte_within}

-- what is looked for at the start is found where they stand
pub letters_start : (bytes : List ℕ) → starts_with eqb bytes (80 ∷ 54 ∷ []) ≡ has_letters bytes
letters_start [] = refl
letters_start (a ∷ []) = grind (arith, nat_tests)
letters_start (a ∷ b ∷ bytes) = grind (arith, nat_tests)

-- they are two bytes
letters_within : (bytes : List ℕ) → has_letters bytes ≡ true → 2 ≤ length bytes
letters_within bytes h =
    byte_within (λ b. eqb b 54) refl bytes 1 (and_parts (eqb (at bytes 0) 80) (eqb (at bytes 1) 54) h).1

-- what follows them
pub letters_split : (bytes : List ℕ) → has_letters bytes ≡ true → bytes ≡ 80 ∷ 54 ∷ drop 2 bytes
letters_split [] h = absurd (omega (arith, letters_within [] h))
letters_split (a ∷ []) h = absurd (omega (arith, letters_within (a ∷ []) h))
letters_split (a ∷ b ∷ bytes) h =
    ap₂ (λ (a b : ℕ). a ∷ b ∷ bytes) (eqb-true a 80 (and_parts (eqb a 80) (eqb b 54) h).0) (eqb-true b 54 (and_parts (eqb a 80) (eqb b 54) h).1)
