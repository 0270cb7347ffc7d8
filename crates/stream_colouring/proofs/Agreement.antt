-- What the host's colour call and a shot's colouring accept, a stream does.
use mathlib.Core.Path.{◌≡◌, refl, sym, ap, ◌∙◌}
use mathlib.Core.Bool.{true}
use mathlib.Core.List.{List}
use Prim.Native.Nat.{ℕ}
use native.Mathlib.Omega.{arith}
use borrow.Author.Tests.{eq-eqb}
use lib.ListN.{length}
use Rattle.refusal.proofs.Laws.{accepted_leaves}
use Rattle.pixel.specs.Methods.{is_method, method_of}
use Rattle.pixel.specs.Strip.{is_whole}
use Rattle.settings.specs.Setting.{SettingInRange, full}
use Rattle.dial.specs.Dial.{decoded, setting_of}
use Rattle.dial.proofs.Range.{setting_in_range}
use Rattle.curve.specs.Curve.{IsToneCurve}
use Rattle.curve_bytes.specs.CurveBytes.{curve_length, curve_bytes, curve_entries, keeps_curve_rule}
use Rattle.curve_bytes.proofs.CurveBytes.{length_bytes, read_back, curve_complete}
use Rattle.colouring.specs.Colouring.{coloured_strip, coloured_under}
use Rattle.colouring.proofs.Strips.{amount_one_is_full_balance}
use Rattle.shot.specs.Reachable.{Reachable}
use Rattle.shot.specs.Shot.{ColourRequest, coloured}
use Rattle.shot.specs.declared.Shot.{Shot}
use Rattle.shot.proofs.Holds.{reachable_holds}
use Rattle.shot.proofs.Passed.{colour_passed}
use Rattle.host.specs.Host.{ColourCall, colour_outcome}
use Rattle.host.proofs.Passed.{colour_passed as host_passed}
use Rattle.stream_colouring.specs.Agreement.{as_host, as_shot, StreamsFollowCalls}
use Rattle.stream_colouring.specs.StreamColour.{StreamCall, StreamColour, stream_colour}
use Rattle.stream_colouring.proofs.Checks.{in_range_accepted}

-- What an accepted stream leaves.
abbrev accepted_with : List ℕ → StreamColour
accepted_with bytes = record { number = 0; bytes = bytes }

-- A call that passes every check writes its stream, coloured.
pub colours : (c : StreamCall) → length c.curve ≡ curve_length → keeps_curve_rule (curve_entries c.curve) ≡ true → is_method c.method ≡ true
    → SettingInRange c.setting → is_whole (length c.stream) ≡ true
    → stream_colour c ≡ record { number = 0; bytes = coloured_under c.setting (method_of c.method) (curve_entries c.curve) c.stream }
unfolding stream_colour
colours c sized ruled known in-range whole =
    rw (eq-eqb (length c.curve) curve_length sized, ruled, known, in_range_accepted c.setting in-range, whole) refl

host : (c : ColourCall) → (colour_outcome c).number ≡ 0 → as_host c ≡ record { number = 0; bytes = (colour_outcome c).bytes }
unfolding colour_outcome
host c ok =
    let passed = host_passed c ok in
    colours (record { curve = c.curve; method = c.method; setting = full; stream = c.source }) passed.size
    (curve_complete (curve_entries c.curve) passed.shape) passed.known (omega arith) passed.whole
    ∙ ap accepted_with
    (amount_one_is_full_balance (method_of c.method) (curve_entries c.curve) c.source
    ∙ sym (accepted_leaves (colour_outcome c).number (coloured_strip (method_of c.method) (curve_entries c.curve) c.source) c.destination ok))

shot : (x : Shot) → Reachable x → (q : ColourRequest) → (coloured x q).answer.number ≡ 0
    → as_shot x q ≡ record { number = 0; bytes = (coloured x q).bytes }
unfolding coloured
shot x r q ok =
    let passed = colour_passed x q ok in
    let tone : IsToneCurve x.curve = (reachable_holds r).1.curve passed.is_fixed in
    let back = read_back x.curve in
    colours
    (record { curve = curve_bytes x.curve; method = q.method; setting = setting_of (decoded q.dial); stream = q.source })
    (omega (arith, length_bytes x.curve, tone.size))
    (rw back (curve_complete x.curve tone)) passed.known (setting_in_range q.dial) passed.whole
    ∙ ap accepted_with
    (ap (λ (curve : List ℕ). coloured_under (setting_of (decoded q.dial)) (method_of q.method) curve q.source) back
    ∙ sym
    (accepted_leaves (coloured x q).answer.number (coloured_under (setting_of (decoded q.dial)) (method_of q.method) x.curve q.source)
    q.destination ok))

pub streams_follow_calls : StreamsFollowCalls
streams_follow_calls = record { host = host; shot = shot }
