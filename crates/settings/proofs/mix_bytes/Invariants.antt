-- The invariant of `settings::mix_bytes`: the bytes below i are mixed, and those from i on are the full balance.
use Rattle.std.proofs.Common.{◌≡◌, ℕ, ◌<◌, ◌≤◌}
use Rattle.tables.specs.Table.{at}
use Rattle.settings.specs.Setting.{mixed}
use Rattle.settings.proofs.mix_bytes.Given as goal

abbrev pub invariant-loop-i : goal.invariant-loop-i
invariant-loop-i l =
    record {
      done : (j : ℕ) → j < l.i → at l.destination j ≡ mixed l.k (at l.source j) (at l.initial.destination j);
      left : (j : ℕ) → l.i ≤ j → at l.destination j ≡ at l.initial.destination j;
    }
