-- Demand 3 for streams: what a colouring of a stream writes are the pixels of a colouring by a tone curve.
use mathlib.Core.Path.{◌≡◌, refl, sym, subst}
use mathlib.Core.Bool.{Bool, true, false, cond}
use mathlib.Core.List.{List, [], map}
use Prim.Native.Nat.{ℕ, ◌*◌, ◌/◌}
use native.Mathlib.Omega.{arith}
use lib.Dec.{eqb}
use lib.ListN.{length, length-map}
use Rattle.refusal.specs.Refusal.{if_accepted}
use Rattle.refusal.proofs.Laws.{accepted_leaves}
use Rattle.tables.specs.Table.{at, ◌among◌}
use Rattle.pixel.specs.Methods.{method_of}
use Rattle.pixel.specs.Move.{intensity}
use Rattle.pixel.specs.Strip.{pixels_of, Bytes}
use Rattle.pixel.specs.declared.Pixel.{Pixel}
use Rattle.pixel.proofs.Strips.{length_pixels, length_bytes}
use Rattle.settings.specs.Setting.{full, written_under}
use Rattle.settings.specs.declared.Setting.{Setting}
use Rattle.curve_bytes.specs.CurveBytes.{curve_entries}
use Rattle.colouring.specs.Colouring.{coloured_under}
use Rattle.colouring.specs.Written.{Written, pixels_written, coloured_pixels}
use Rattle.colouring.proofs.Written.{in_accepted, coloured_pixels_are_exact, coloured_pixels_are_rounded, coloured_pixels_are_accurate, one_curve_keeps_order, Balanced, coloured_pixels_are_balanced}
use Rattle.stream_colouring.specs.Accuracy.{opening, written, StreamsAreAccurate}
use Rattle.stream_colouring.specs.StreamColour.{StreamCall, stream_colour}
use Rattle.stream_colouring.proofs.Passed.{Opened, opened, opened_shape}

-- a colouring has three bytes for each whole pixel of its source
coloured_size : (c : StreamCall) → length (coloured_under c.setting (method_of c.method) (curve_entries c.curve) c.stream) ≡ 3 * (length c.stream / 3)
unfolding coloured_under
coloured_size c =
    let change : Pixel → Pixel = λ p. written_under c.setting (method_of c.method) (at (curve_entries c.curve) (intensity p)) p in
    omega (
      arith,
      length_bytes (map change (pixels_of c.stream)),
      length-map (pixels_of c.stream) change,
      length_pixels c.stream,
    )

-- what is written or not has so many bytes or none
either_size : (accepted : Bool) (bytes : List ℕ) (n : ℕ) → length bytes ≡ n → length (cond accepted bytes []) ≡ cond accepted n 0
either_size true bytes n is = is
either_size false bytes n is = refl

size : (c : StreamCall) → length (stream_colour c).bytes ≡ if_accepted (opening c) (3 * (length c.stream / 3)) 0
unfolding stream_colour
size c = either_size (eqb (opening c) 0) _ _ (coloured_size c)

-- what is known of a pixel that a call writes
record ByStream (c : StreamCall) (w : Written) : Type 0 where
  passed : Opened c.curve c.method c.setting
  member : w among coloured_pixels c.setting (method_of c.method) (curve_entries c.curve) c.stream

by_stream : (c : StreamCall) (w : Written) → w among written c → ByStream c w
unfolding stream_colour
by_stream c w m =
    let (ok, member) = in_accepted (opening c) _ w m in
    record {
      passed = opened c.curve c.method c.setting ok;
      member =
          subst (λ (bytes : List ℕ). w among pixels_written c.setting (method_of c.method) (curve_entries c.curve) c.stream bytes)
          (accepted_leaves (opening c) (coloured_under c.setting (method_of c.method) (curve_entries c.curve) c.stream) [] ok)
          member;
    }

-- under the full balance it is one of a balance
by_balance : (c : StreamCall) → Bytes c.stream → c.setting ≡ full → (w : Written) → w among written c → Balanced w
by_balance c bytes is w m =
    let by = by_stream c w m in
    coloured_pixels_are_balanced (method_of c.method) (curve_entries c.curve) c.stream (opened_shape by.passed) bytes w
    (subst (λ (s : Setting). w among coloured_pixels s (method_of c.method) (curve_entries c.curve) c.stream) is by.member)

pub streams_are_accurate : StreamsAreAccurate
streams_are_accurate =
    record {
      size = size;
      shapes = λ c ok. opened_shape (opened c.curve c.method c.setting ok);
      exact = λ c w m.
          coloured_pixels_are_exact c.setting (method_of c.method) (curve_entries c.curve) c.stream w (by_stream c w m).member;
      rounded = λ c bytes w m.
          let by = by_stream c w m in
          coloured_pixels_are_rounded c.setting (method_of c.method) (curve_entries c.curve) c.stream by.passed.in_range (opened_shape by.passed) bytes w by.member;
      rules = λ c bytes w m.
          let by = by_stream c w m in
          coloured_pixels_are_accurate c.setting (method_of c.method) (curve_entries c.curve) c.stream by.passed.in_range (opened_shape by.passed) bytes w by.member;
      balance_rounded = λ c bytes is w m. (by_balance c bytes is w m).rounded;
      balance_rules = λ c bytes is w m. (by_balance c bytes is w m).rules;
      order = λ c d bc bd same v w mv mw.
          let first = by_stream c v mv in
          let second = by_stream d w mw in
          one_curve_keeps_order c.setting d.setting (method_of c.method) (method_of d.method) (curve_entries c.curve) c.stream d.stream
          first.passed.in_range second.passed.in_range (opened_shape first.passed) bc bd v w first.member
          (subst (λ (curve : List ℕ). w among coloured_pixels d.setting (method_of d.method) curve d.stream) (sym same) second.member);
    }
