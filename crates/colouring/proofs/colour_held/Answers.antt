-- `colouring::colour_held` meets its contract: every entry of the level curve is the held value.
use Rattle.std.proofs.Common.{ℕ, ◌≤◌, subst, sym, arith}
use lib.ListN.{get_or-replicate}
use Rattle.colouring.proofs.colour_held.Goals as goal

pub invariant_of-targets : goal.invariant_of-targets
invariant_of-targets c =
    record { in_range = λ s h. subst (λ (x : ℕ). x ≤ 765) (sym (get_or-replicate 766 s c.args.v 0 (omega arith))) c.requires.v_bound }
