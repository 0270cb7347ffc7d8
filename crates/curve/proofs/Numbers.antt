-- The choices' numbers.
use mathlib.Core.Path.{◌≡◌, refl}
use mathlib.Core.Bool.{true}
use mathlib.Core.List.{[], ◌∷◌}
use Rattle.refusal.proofs.Numbering.{number_of_case}
use Rattle.curve.specs.Choices.{choice_number, is_choice, choice_of, ChoicesAreNumbered}
use Rattle.curve.specs.declared.Choice.{Choice}
use Rattle.curve.specs.declared.Choice.TheVariants.{Cube, Equalised}

-- a choice's number names a choice
named : (c : Choice) → is_choice (choice_number c) ≡ true
named Cube = refl
named Equalised = refl

-- and that choice
back : (c : Choice) → choice_of (choice_number c) ≡ c
back Cube = refl
back Equalised = refl

pub choices_are_numbered : ChoicesAreNumbered
choices_are_numbered = record { named = named; back = back; only = number_of_case choice_number Cube (Equalised ∷ []) }
