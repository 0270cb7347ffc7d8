-- The curve choices, and document 01's number for each ("Fixing the curve").
use Rattle.std.specs.Prelude.{Bool, [], ◌∷◌, ℕ, Result}
use Rattle.refusal.specs.Numbering.{is_number, case_of, IsNumbering, Named}
use Rattle.refusal.specs.declared.Refusal.{Refusal}
use Rattle.refusal.specs.declared.Refusal.TheVariants.{NoSuchChoice}
use Rattle.curve.specs.declared.Choice.{Choice}
use Rattle.curve.specs.declared.Choice.TheVariants.{Cube, Equalised}

-- Choice 1, cube; choice 2, equalised.
abbrev pub choice_number : Choice → ℕ
choice_number Cube = 1
choice_number Equalised = 2

-- Whether a number is one of these.
abbrev pub is_choice : ℕ → Bool
is_choice = is_number choice_number Cube (Equalised ∷ [])

-- The choice of a number that is one of these.
abbrev pub choice_of : ℕ → Choice
choice_of = case_of choice_number Cube (Equalised ∷ [])

-- What a number is read as: its choice, or 4 where it is not 1 or 2.
abbrev pub ChoiceNamed : ℕ → Result Choice Refusal → Type 0
ChoiceNamed = Named is_choice choice_of NoSuchChoice

-- Claim: a choice's number names it, and every number that names a choice is that choice's. Proved: proofs/Numbers.antt,
-- `choices_are_numbered`.
abbrev pub ChoicesAreNumbered : Type 0
ChoicesAreNumbered = IsNumbering choice_number is_choice choice_of
