-- What is known of a reader's bytes.
use mathlib.Core.Path.{sym, ap, subst, ◌∙◌}
use mathlib.Core.List.{List, ◌++◌, append-nil}
use Prim.Native.Nat.{ℕ}
use Rattle.std.specs.Prelude.{Option, Some, None, IfSome}
use Rattle.std.specs.Io.KnownBytes.{Consumes, IsAtEnd}

-- what holds of every stream holds of a known one,
pub of_known : {P : List ℕ → Type 0} (stream : Option (List ℕ)) → ((s : List ℕ) → P s) → IfSome stream P
of_known None each = tt
of_known (Some s) each = each s

-- and what follows from what is known of it
pub from_known : {P Q : List ℕ → Type 0} (stream : Option (List ℕ)) → IfSome stream P → ((s : List ℕ) → P s → Q s) → IfSome stream Q
from_known None known each = tt
from_known (Some s) known each = each s known

-- what holds of all that was read up to its end holds of a known stream
pub all_of : (stream rest : Option (List ℕ)) (read : List ℕ) → Consumes stream rest read → IsAtEnd rest → (P : List ℕ → Type 0) → P read
    → IfSome stream P
all_of None rest read consumed end P p = tt
all_of (Some s) None read consumed end P p = absurd consumed
all_of (Some s) (Some left) read consumed end P p =
    subst P (sym (consumed ∙ ap (λ (l : List ℕ). read ++ l) end ∙ append-nil read)) p
