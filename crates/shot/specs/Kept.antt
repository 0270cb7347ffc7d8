-- What the fields of a shot keep.
use mathlib.Core.Path.{ap}
use Rattle.std.specs.Prelude.{◌≡◌, refl, cond, List, ℕ, replicate, Option, Some, None, is_some}
use Rattle.shot.specs.declared.Shot.TheInside.{Inside}
use Rattle.shot.specs.State.{State}

-- The entries of a curve; where there is none, zeros, which nothing reads.
unfoldable pub entries : Option (List ℕ) → List ℕ
entries None = replicate 766 0
entries (Some curve) = curve

-- A shot's state.
abbrev pub kept : Inside → State
kept x = record { counts = x.counts; pixels = x.pixels; fixed = is_some x.curve; curve = entries x.curve }

-- A curve that is kept is read back.
pub curve_back : (curve : Option (List ℕ)) → cond (is_some curve) (Some (entries curve)) None ≡ curve
unfolding entries
curve_back None = refl
curve_back (Some curve) = refl

-- The fields that keep a state,
abbrev pub fields_of : State → Inside
fields_of x = record { counts = x.counts; pixels = x.pixels; curve = cond x.fixed (Some x.curve) None }

-- which are those that the state was read from.
pub fields_of_kept : (x : Inside) → fields_of (kept x) ≡ x
fields_of_kept x =
    ap (λ (curve : Option (List ℕ)). record { counts = x.counts; pixels = x.pixels; curve = curve }) (curve_back x.curve)
