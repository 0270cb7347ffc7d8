-- Demand 3 for the host's calls.
use mathlib.Core.Path.{◌≡◌, refl, sym, ap, ◌∙◌}
use mathlib.Core.List.{List}
use Prim.Native.Nat.{ℕ}
use native.Mathlib.Omega.{arith}
use lib.ListN.{length}
use Rattle.refusal.specs.Refusal.{if_accepted}
use Rattle.refusal.proofs.Laws.{refused_leaves, either_leaves}
use Rattle.tables.specs.Table.{◌among◌}
use Rattle.pixel.specs.Methods.{method_of}
use Rattle.pixel.specs.Strip.{Bytes}
use Rattle.curve_bytes.specs.CurveBytes.{curve_entries}
use Rattle.colouring.specs.Written.{Written}
use Rattle.colouring.proofs.Strips.{amount_one_is_full_balance}
use Rattle.colouring.proofs.Written.{Performed, colouring_accurate, Balanced, full_balanced, balances_keep_order, colourings_keep_order}
use Rattle.host.specs.Accuracy.{CurveAccurate, colouring_of, written, HostRoundsThePaper, HostAccurate}
use Rattle.host.specs.Host.{CurveCall, curve_outcome, ColourCall, colour_outcome}
use Rattle.host.proofs.Agreement.{made_size, written_shape}
use Rattle.host.proofs.Passed.{curve_passed, colour_passed}

-- what a curve call leaves
curves : (c : CurveCall) → Bytes c.strip → CurveAccurate c
unfolding curve_outcome
curves c bytes = record {
  size =
      either_leaves (curve_outcome c).number _ c.curve (λ (bytes : List ℕ). length bytes ≡ length c.curve)
      (λ e. made_size c bytes e ∙ sym (curve_passed c e).size)
      refl;
  untouched = refused_leaves (curve_outcome c).number _ c.curve;
  shape = written_shape c bytes;
}

-- what a colour call leaves
performed : (c : ColourCall) → Bytes c.source → Performed (colouring_of c)
unfolding colour_outcome
performed c bytes = record {
  left =
      ap (λ (l : List ℕ). if_accepted (colour_outcome c).number l c.destination)
      (sym (amount_one_is_full_balance (method_of c.method) (curve_entries c.curve) c.source));
  setting = λ e. omega arith;
  whole = λ e. (colour_passed c e).whole;
  same = λ e. (colour_passed c e).same;
  tone = λ e some. (colour_passed c e).shape;
  bytes = bytes;
}

-- every pixel that a host colouring writes is one of a full balance
balanced : (c : ColourCall) → Bytes c.source → (w : Written) → w among written c → Balanced w
balanced c bytes = full_balanced (colouring_of c) (performed c bytes) refl

pub host_accurate : HostAccurate
host_accurate = record {
  curves = curves;
  shapes = λ c e. (colour_passed c e).shape;
  colourings = λ c bytes. colouring_accurate (colouring_of c) (performed c bytes);
  rules = λ c bytes w m. (balanced c bytes w m).rules;
  order = λ c d bc bd same v w mv mw.
      balances_keep_order (balanced c bc v mv) (balanced d bd w mw)
      (colourings_keep_order (colouring_of c) (colouring_of d) (performed c bc) (performed d bd) same v w mv mw);
}

pub host_rounds_the_paper : HostRoundsThePaper
host_rounds_the_paper c bytes w m = (balanced c bytes w m).rounded
