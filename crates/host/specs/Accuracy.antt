-- Demand 3 for host colourings (document 01, "The panel's host"): "For every accepted one the mission's demand 3 reads the curve handed
-- in, and pixels coloured by equal curves, in whichever host colourings, count as of the same shot."
use Rattle.std.specs.Prelude.{List, ◌≡◌, length}
use Rattle.tables.specs.Table.{◌among◌}
use Rattle.pixel.specs.Methods.{method_of}
use Rattle.pixel.specs.Strip.{Bytes}
use Rattle.curve.specs.Curve.{IsToneCurve}
use Rattle.curve_bytes.specs.CurveBytes.{curve_entries}
use Rattle.settings.specs.Setting.{full}
use Rattle.colouring.specs.Written.{Written, BalanceAccurate, BalanceRounded, AtMostTwoBelow, Colouring, written_by, ColouringAccurate}
use Rattle.host.specs.Host.{CurveCall, curve_outcome, ColourCall, colour_outcome}

-- What holds of a curve call.
pub record CurveAccurate (c : CurveCall) : Type 0 where
  -- it leaves the run as long as it was, and a refused one leaves every byte of it
  pub size : length (curve_outcome c).bytes ≡ length c.curve
  pub untouched : ((curve_outcome c).number ≡ 0 → ⊥) → (curve_outcome c).bytes ≡ c.curve
  -- an accepted one leaves a tone curve in it
  pub shape : (curve_outcome c).number ≡ 0 → IsToneCurve (curve_entries (curve_outcome c).bytes)

-- A host colouring, as one that was answered: by the curve handed in, and "the host's call keeps the full balance" (document 02, wish 1).
abbrev pub colouring_of : ColourCall → Colouring
colouring_of c =
    record {
      number = (colour_outcome c).number;
      setting = full;
      method = method_of c.method;
      curve = curve_entries c.curve;
      source = c.source;
      before = c.destination;
      after = (colour_outcome c).bytes;
    }

-- The pixels that it writes.
abbrev pub written : ColourCall → List Written
written c = written_by (colouring_of c)

-- Claim: demand 2 for every pixel that a host colouring writes: each sample is the exact value of the paper's formula, rounded once. Proved:
-- proofs/Accuracy.antt, `host_rounds_the_paper`.
abbrev pub HostRoundsThePaper : Type 0
HostRoundsThePaper = (c : ColourCall) → Bytes c.source → (w : Written) → w among written c → BalanceRounded w

-- Claim: demand 3 for the host. Strips and sources are bytes; all else that a call brings is any.
-- Proved: proofs/Accuracy.antt, `host_accurate`.
pub record HostAccurate : Type 0 where
  pub curves : (c : CurveCall) → Bytes c.strip → CurveAccurate c
  -- the curve of an accepted colouring has 766 entries, the first 0 and the last 765, none above 765 and none less than the one before
  pub shapes : (c : ColourCall) → (colour_outcome c).number ≡ 0 → IsToneCurve (curve_entries c.curve)
  -- what holds of every colouring: size, bytes left, exactness and rules
  pub colourings : (c : ColourCall) → Bytes c.source → ColouringAccurate (colouring_of c)
  -- "every pixel written keeps four rules": the mission's own, by the factor and the entry themselves
  pub rules : (c : ColourCall) → Bytes c.source → (w : Written) → w among written c → BalanceAccurate w
  -- "and of any two pixels of the same shot, whichever colourings and methods wrote them, the one whose input sum is no smaller has
  -- a sum at most two below the other's": here, pixels coloured by equal curves
  pub order : (c d : ColourCall) → Bytes c.source → Bytes d.source → curve_entries c.curve ≡ curve_entries d.curve
      → (v w : Written) → v among written c → w among written d → AtMostTwoBelow v w
