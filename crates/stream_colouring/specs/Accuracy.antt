-- The pixels that a colouring of a stream writes, and their accuracy: demand 3 and the rules of wish 1 "read the curve handed in", as they do
-- for the host.
use Rattle.std.specs.Prelude.{◌≡◌, List, [], ℕ, ◌*◌, ◌/◌, length}
use Rattle.refusal.specs.Refusal.{if_accepted}
use Rattle.tables.specs.Table.{◌among◌}
use Rattle.pixel.specs.Methods.{method_of}
use Rattle.pixel.specs.Strip.{Bytes}
use Rattle.settings.specs.Setting.{full}
use Rattle.curve.specs.Curve.{IsToneCurve}
use Rattle.curve_bytes.specs.CurveBytes.{curve_entries}
use Rattle.colouring.specs.Written.{Written, WrittenExact, WrittenRounded, WrittenAccurate, BalanceAccurate, BalanceRounded, KeepOrder, pixels_written}
use Rattle.stream_colouring.specs.StreamColour.{StreamCall, opening_number, stream_colour}

-- The number that a call gets before its stream.
abbrev pub opening : StreamCall → ℕ
opening c = opening_number c.curve c.method c.setting

-- The pixels that it writes: all of the stream's, each with the curve's entry for its intensity, also where the stream is then refused by 2.
abbrev pub written : StreamCall → List Written
written c =
    if_accepted (opening c) (pixels_written c.setting (method_of c.method) (curve_entries c.curve) c.stream (stream_colour c).bytes) []

-- Claim: demands 2 and 3 for a stream. Streams are bytes; all else that a call brings is any. Proved: proofs/Accuracy.antt,
-- `streams_are_accurate`.
pub record StreamsAreAccurate : Type 0 where
  -- three bytes for each whole pixel of the stream, or none
  pub size : (c : StreamCall) → length (stream_colour c).bytes ≡ if_accepted (opening c) (3 * (length c.stream / 3)) 0
  -- the curve of a call that writes has 766 entries, the first 0 and the last 765, none above 765 and none less than the one before
  pub shapes : (c : StreamCall) → opening c ≡ 0 → IsToneCurve (curve_entries c.curve)
  -- every pixel written is what the setting's rule gives, and so the paper's, rounded once, and keeps the rules of its setting
  pub exact : (c : StreamCall) → (w : Written) → w among written c → WrittenExact w
  pub rounded : (c : StreamCall) → Bytes c.stream → (w : Written) → w among written c → WrittenRounded w
  pub rules : (c : StreamCall) → Bytes c.stream → (w : Written) → w among written c → WrittenAccurate w
  -- without a command, or with mix 256, it is the paper's and keeps the mission's own rules
  pub balance_rounded : (c : StreamCall) → Bytes c.stream → c.setting ≡ full → (w : Written) → w among written c → BalanceRounded w
  pub balance_rules : (c : StreamCall) → Bytes c.stream → c.setting ≡ full → (w : Written) → w among written c → BalanceAccurate w
  -- any two pixels coloured by equal curves, in whichever streams, under one command with one amount or held value, keep their order
  pub order : (c d : StreamCall) → Bytes c.stream → Bytes d.stream → curve_entries c.curve ≡ curve_entries d.curve
      → (v w : Written) → v among written c → w among written d → KeepOrder v w
