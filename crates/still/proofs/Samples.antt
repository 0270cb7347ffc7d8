-- Colouring the samples of a picture.
use mathlib.Core.Path.{◌≡◌, ap, sym, ◌∙◌}
use mathlib.Core.Bool.{true}
use mathlib.Core.List.{List}
use Prim.Native.Nat.{ℕ, ◌*◌, ◌%◌, ◌≤◌, ◌<◌}
use native.Mathlib.Omega.{arith}
use borrow.Author.Tests.{eq-eqb}
use lib.ListN.{length}
use Rattle.pixel.specs.Methods.{method_of}
use Rattle.pixel.specs.Strip.{is_whole}
use Rattle.strip_curve.proofs.Laws.{StripAccepted}
use Rattle.settings.specs.Setting.{full}
use Rattle.colouring.proofs.Strips.{amount_one_is_full_balance}
use Rattle.colouring.proofs.Written.{coloured_length}
use Rattle.netpbm.specs.Header.{area_limit}
use Rattle.still.specs.Still.{file_method, own_curve, balanced}

-- three samples to a pixel are whole pixels
threes_whole : (n : ℕ) → is_whole (3 * n) ≡ true
threes_whole n = eq-eqb (3 * n % 3) 0 (omega arith)

-- the samples of a picture of accepted size can be taken as a whole shot
pub whole_shot : (area samples : ℕ) → samples ≡ 3 * area → 0 < area → area ≤ area_limit → StripAccepted samples
whole_shot area samples exact some most =
    record { whole = rw exact (threes_whole area); some = omega arith; limit = omega arith }

-- coloured samples are as many
pub balanced_length : (samples : List ℕ) → is_whole (length samples) ≡ true → length (balanced samples) ≡ length samples
unfolding balanced
balanced_length samples whole =
    ap length (sym (amount_one_is_full_balance (method_of file_method) (own_curve samples) samples))
    ∙ coloured_length full (method_of file_method) (own_curve samples) samples whole
