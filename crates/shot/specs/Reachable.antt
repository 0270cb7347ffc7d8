-- The one premise of a shot's calls (document 01, "The ground covered").
use Rattle.std.specs.Prelude.{List, ℕ}
use Rattle.pixel.specs.Strip.{Bytes}
use Rattle.shot.specs.Shot.{opened, measured, fixed_with}
use Rattle.shot.specs.declared.Shot.{Shot}

-- "Only opening, measuring and fixing make a shot; that the shot handed in came from these is the one premise a call may lean on."
pub data Reachable : Shot → Type 0 where
  by_opening : Reachable opened
  by_measuring : {x : Shot} → Reachable x → (strip : List ℕ) → Bytes strip → Reachable (measured x strip).shot
  by_fixing : {x : Shot} → Reachable x → (choice : ℕ) → Reachable (fixed_with x choice).shot
