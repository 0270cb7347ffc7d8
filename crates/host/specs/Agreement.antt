-- The host's calls beside a shot's: "the curve of that strip taken as a whole shot" (document 01, "The panel's host").
use Rattle.std.specs.Prelude.{true, List, ◌≡◌, ℕ, length}
use Rattle.pixel.specs.Methods.{is_method}
use Rattle.pixel.specs.Strip.{is_whole, Bytes}
use Rattle.dial.specs.Dial.{full_balance}
use Rattle.curve_bytes.specs.CurveBytes.{curve_length, curve_bytes}
use Rattle.shot.specs.Shot.{opened, measured, fixed_with, coloured}
use Rattle.shot.specs.declared.Answer.{Answer}
use Rattle.host.specs.Host.{CurveCall, curve_outcome, ColourCall, colour_outcome}

-- What an opened shot's measuring of the call's strip hands back.
abbrev pub measure_answer : CurveCall → Answer
measure_answer c = measured opened c.strip

-- What fixing that shot by the call's choice then hands back.
abbrev pub fix_answer : CurveCall → Answer
fix_answer c = fixed_with (measure_answer c).shot c.choice

-- The curve call was accepted.
abbrev pub Accepted : CurveCall → Type 0
Accepted c = (curve_outcome c).number ≡ 0

-- A colour call by the curve that the curve call wrote.
abbrev pub colour_by : CurveCall → ℕ → List ℕ → List ℕ → ColourCall
colour_by c method source destination =
    record { curve = (curve_outcome c).bytes; method = method; source = source; destination = destination }

-- Claim: the host's calls do what a shot's do. Proved: proofs/Agreement.antt, `host_follows_shot`.
pub record HostFollowsShot : Type 0 where
  -- with a run of 1,532 bytes, the curve call accepts exactly what measuring and fixing a newly opened shot accept
  pub measures : (c : CurveCall) → Bytes c.strip → Accepted c → (measure_answer c).number ≡ 0
  pub fixes : (c : CurveCall) → Bytes c.strip → Accepted c → (fix_answer c).number ≡ 0
  pub accepts : (c : CurveCall) → length c.curve ≡ curve_length → (measure_answer c).number ≡ 0 → (fix_answer c).number ≡ 0 → Accepted c
  -- it writes the curve that these give
  pub curve : (c : CurveCall) → Bytes c.strip → Accepted c → (curve_outcome c).bytes ≡ curve_bytes (fix_answer c).shot.curve
  -- the colour call always accepts that curve
  pub curve_accepted : (c : CurveCall) → Bytes c.strip → Accepted c → (method : ℕ) (source destination : List ℕ)
      → is_method method ≡ true → is_whole (length source) ≡ true → length destination ≡ length source
      → (colour_outcome (colour_by c method source destination)).number ≡ 0
  -- and then does what colouring from that shot does with the dial at the full balance, the mix at amount 1, whatever else it is lent
  pub colours : (c : CurveCall) → Bytes c.strip → Accepted c → (method : ℕ) (source destination : List ℕ)
      → colour_outcome (colour_by c method source destination)
      ≡ (let o = coloured (fix_answer c).shot (record { method = method; dial = full_balance; source = source; destination = destination }) in
      record { number = o.answer.number; bytes = o.bytes })
