-- The two methods of moving a pixel, and document 01's number for each.
use Rattle.std.specs.Prelude.{Bool, [], ◌∷◌, ℕ, Result}
use Rattle.refusal.specs.Numbering.{is_number, case_of, IsNumbering, Named}
use Rattle.refusal.specs.declared.Refusal.{Refusal}
use Rattle.refusal.specs.declared.Refusal.TheVariants.{NoSuchMethod}
use Rattle.pixel.specs.declared.Method.{Method}
use Rattle.pixel.specs.declared.Method.TheVariants.{NaikMurthy, YangLee}

-- Method 1, Naik and Murthy; method 2, Yang and Lee.
abbrev pub method_number : Method → ℕ
method_number NaikMurthy = 1
method_number YangLee = 2

-- Whether a number is one of these.
abbrev pub is_method : ℕ → Bool
is_method = is_number method_number NaikMurthy (YangLee ∷ [])

-- The method of a number that is one of these.
abbrev pub method_of : ℕ → Method
method_of = case_of method_number NaikMurthy (YangLee ∷ [])

-- What a number is read as: its method, or 7 where it is not 1 or 2.
abbrev pub MethodNamed : ℕ → Result Method Refusal → Type 0
MethodNamed = Named is_method method_of NoSuchMethod

-- Claim: a method's number names it, and every number that names a method is that method's. Proved: proofs/Numbers.antt,
-- `methods_are_numbered`.
abbrev pub MethodsAreNumbered : Type 0
MethodsAreNumbered = IsNumbering method_number is_method method_of
