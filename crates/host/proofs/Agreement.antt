-- The host's calls do what a shot's do.
use mathlib.Core.Path.{◌≡◌, refl, sym, ap, subst, ◌∙◌}
use mathlib.Core.Bool.{true}
use mathlib.Core.List.{List, [], ◌∷◌}
use Prim.Native.Nat.{ℕ, ◌+◌, ◌/◌}
use native.Mathlib.Omega.{arith}
use borrow.Author.Tests.{eq-eqb, ne_eqb, le-ltb}
use lib.ListN.{length}
use Rattle.pixel.specs.Methods.{is_method, method_of}
use Rattle.pixel.specs.Strip.{is_whole, Bytes}
use Rattle.dial.specs.Dial.{full_balance}
use Rattle.dial.proofs.Exact.{full_balance_lem}
use Rattle.measuring.specs.Histogram.{pixel_limit}
use Rattle.curve.specs.Curve.{curve_of, IsToneCurve}
use Rattle.strip_curve.proofs.Laws.{strip_shape}
use Rattle.curve_bytes.specs.CurveBytes.{curve_length, curve_bytes, curve_entries, keeps_curve_rule}
use Rattle.curve_bytes.proofs.CurveBytes.{length_bytes, read_back, curve_complete}
use Rattle.colouring.proofs.Strips.{amount_one_is_full_balance}
use Rattle.shot.specs.Shot.{opened, measured, fixed_with, coloured}
use Rattle.shot.proofs.OneStrip.{measure_accepted, fix_accepted, is_fixed_lem, curve_is}
use Rattle.shot.proofs.Passed.{measure_passed, fix_passed}
use Rattle.host.specs.Agreement.{measure_answer, fix_answer, Accepted, colour_by, HostFollowsShot}
use Rattle.host.specs.Host.{CurveCall, curve_outcome, colour_outcome}
use Rattle.host.proofs.Passed.{HostCurveAccepted, curve_passed}

-- the bytes that it writes
bytes_are : (c : CurveCall) → Accepted c → (curve_outcome c).bytes ≡ curve_bytes (curve_of c.choice (c.strip ∷ []))
unfolding curve_outcome
bytes_are c e = simp (eq-eqb (curve_outcome c).number 0 e)

module _ (c : CurveCall) (bytes : Bytes c.strip) (e : Accepted c) where
  passed : HostCurveAccepted c
  passed = curve_passed c e

  measures : (measure_answer c).number ≡ 0
  measures = measure_accepted c.strip bytes c.choice passed.known passed.strip

  fixes : (fix_answer c).number ≡ 0
  fixes = fix_accepted c.strip bytes c.choice passed.known passed.strip

  fixed : (fix_answer c).shot.fixed ≡ true
  fixed = is_fixed_lem c.strip bytes c.choice passed.known passed.strip

  same_curve : (fix_answer c).shot.curve ≡ curve_of c.choice (c.strip ∷ [])
  same_curve = curve_is c.strip bytes c.choice passed.known passed.strip

  shape : IsToneCurve (curve_of c.choice (c.strip ∷ []))
  shape = strip_shape c.strip passed.strip bytes c.choice

  -- it writes the shot's curve
  writes : (curve_outcome c).bytes ≡ curve_bytes (fix_answer c).shot.curve
  writes = bytes_are c e ∙ ap curve_bytes (sym same_curve)

  -- which is read back
  entries_are : curve_entries (curve_outcome c).bytes ≡ (fix_answer c).shot.curve
  entries_are = ap curve_entries writes ∙ read_back (fix_answer c).shot.curve

  pub made_size : length (curve_bytes (curve_of c.choice (c.strip ∷ []))) ≡ curve_length
  made_size = omega (arith, length_bytes (curve_of c.choice (c.strip ∷ [])), shape.size)

  written_size : length (curve_outcome c).bytes ≡ curve_length
  written_size = ap length (bytes_are c e) ∙ made_size

  pub written_shape : IsToneCurve (curve_entries (curve_outcome c).bytes)
  written_shape = subst IsToneCurve (sym (entries_are ∙ same_curve)) shape

  ruled : keeps_curve_rule (curve_entries (curve_outcome c).bytes) ≡ true
  ruled = curve_complete (curve_entries (curve_outcome c).bytes) written_shape

  -- the colour call accepts it, and does what the shot's colouring does
  module _ (method : ℕ) (source destination : List ℕ) where
    curve_accepted_lem : is_method method ≡ true → is_whole (length source) ≡ true → length destination ≡ length source
        → (colour_outcome (colour_by c method source destination)).number ≡ 0
    unfolding colour_outcome
    curve_accepted_lem known whole same =
        rw (eq-eqb (length (curve_outcome c).bytes) curve_length written_size, ruled, known, whole, eq-eqb (length destination) (length source) same) refl

    colours : colour_outcome (colour_by c method source destination)
        ≡ (let o = coloured (fix_answer c).shot (record { method = method; dial = full_balance; source = source; destination = destination }) in
        record { number = o.answer.number; bytes = o.bytes })
    unfolding colour_outcome coloured
    colours =
        rw (
          eq-eqb (length (curve_outcome c).bytes) curve_length written_size,
          ruled,
          entries_are,
          fixed,
          full_balance_lem,
          amount_one_is_full_balance (method_of method) (fix_answer c).shot.curve source,
        ) refl

-- a measured shot has the strip's pixels
pixels_are : (c : CurveCall) → (measure_answer c).number ≡ 0 → (measure_answer c).shot.pixels ≡ 0 + length c.strip / 3
unfolding measured opened
pixels_are c e = rw (eq-eqb (measure_answer c).number 0 e) refl

-- what opening, measuring and fixing accept, the curve call accepts
accepts : (c : CurveCall) → length c.curve ≡ curve_length → (measure_answer c).number ≡ 0 → (fix_answer c).number ≡ 0 → Accepted c
unfolding curve_outcome measured fixed_with opened
accepts c size measured-it fixed-it =
    let m = measure_passed opened c.strip measured-it in
    let f = fix_passed (measure_answer c).shot c.choice fixed-it in
    rw (
      f.known,
      eq-eqb (length c.curve) curve_length size,
      m.whole,
      ne_eqb (length c.strip) 0 (λ e. omega (arith, f.some, pixels_are c measured-it)),
      le-ltb pixel_limit (length c.strip / 3) (omega (arith, m.room)),
    ) refl

pub host_follows_shot : HostFollowsShot
host_follows_shot =
    record {
      measures = measures;
      fixes = fixes;
      accepts = accepts;
      curve = writes;
      curve_accepted = curve_accepted_lem;
      colours = colours;
    }
