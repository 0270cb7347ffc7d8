-- The methods' numbers.
use mathlib.Core.Path.{◌≡◌, refl}
use mathlib.Core.Bool.{true}
use mathlib.Core.List.{[], ◌∷◌}
use Rattle.refusal.proofs.Numbering.{number_of_case}
use Rattle.pixel.specs.Methods.{method_number, is_method, method_of, MethodsAreNumbered}
use Rattle.pixel.specs.declared.Method.{Method}
use Rattle.pixel.specs.declared.Method.TheVariants.{NaikMurthy, YangLee}

named : (m : Method) → is_method (method_number m) ≡ true
named NaikMurthy = refl
named YangLee = refl

back : (m : Method) → method_of (method_number m) ≡ m
back NaikMurthy = refl
back YangLee = refl

pub methods_are_numbered : MethodsAreNumbered
methods_are_numbered = record { named = named; back = back; only = number_of_case method_number NaikMurthy (YangLee ∷ []) }
