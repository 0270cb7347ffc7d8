-- The widths of a key follow from demands 2 and 3, for every pixel written.
use mathlib.Core.Path.{◌≡◌, refl, sym, subst}
use mathlib.Core.List.{List, []}
use mathlib.Core.Option.{Option, none, some}
use Prim.Native.Nat.{ℕ, ◌/◌, ◌≤◌}
use native.Mathlib.Omega.{arith}
use lib.ListN.{length}
use Rattle.refusal.specs.Refusal.{if_accepted}
use Rattle.tables.specs.Table.{◌among◌}
use Rattle.tables.proofs.Laws.{tabulate_member}
use Rattle.pixel.specs.Methods.{method_of}
use Rattle.pixel.specs.Move.{InRange}
use Rattle.pixel.specs.Strip.{Bytes}
use Rattle.pixel.specs.declared.Method.{Method}
use Rattle.pixel.proofs.Strips.{pixel_in_range, intensity_in_range}
use Rattle.settings.specs.Setting.{SettingInRange, full}
use Rattle.settings.specs.declared.Setting.{Setting}
use Rattle.dial.specs.declared.Dial.{Dial}
use Rattle.dial.proofs.Range.{setting_in_range}
use Rattle.curve.specs.Curve.{EntriesInRange, IsToneCurve}
use Rattle.colouring.specs.Colouring.{coloured_under}
use Rattle.colouring.specs.Written.{Written, WrittenExact, WrittenAccurate, pixels_written}
use Rattle.colouring.proofs.Written.{in_accepted, coloured_pixels_are_exact, coloured_pixels_are_accurate}
use Rattle.book.specs.Accuracy.{requested, entries}
use Rattle.book.specs.Book.{Call, Call.opening, Call.measuring, Call.fixing, Call.colouring}
use Rattle.book.specs.Reading.{setting_read}
use Rattle.book.specs.Run.{number, WellFormed}
use Rattle.book.proofs.Accuracy.{accuracy, step_brings}
use Rattle.book.proofs.Reading.{reads}
use Rattle.curve_bytes.specs.CurveBytes.{curve_entries}
use Rattle.host.specs.Host.{colour_outcome}
use Rattle.host.proofs.Accuracy.{host_accurate}
use Rattle.stream_colouring.specs.Accuracy.{opening as before_stream}
use Rattle.stream_colouring.specs.StreamColour.{stream_colour}
use Rattle.stream_colouring.proofs.Accuracy.{streams_are_accurate}
use Rattle.stream_colouring.proofs.Passed.{opened}
use Rattle.still.specs.Still.{file_method, own_curve, file_samples}
use Rattle.still.proofs.Agreement.{file_colouring}
use Rattle.key.specs.Dial.{WidthsUnder}
use Rattle.key.specs.Written.{WrittenWidths, WrittenBalanceWidths, CallsKeepWidths, HostKeepsWidths, StreamsKeepWidths, FilesKeepWidths}
use Rattle.key.proofs.Dial.{widths_under}

-- the source pixel has bytes for samples, the entry is a target, and it was coloured under this setting, which is in range
record FromBytes (setting : Setting) (w : Written) : Type 0 where
  input : InRange w.input
  entry : w.entry ≤ 765
  under : w.setting ≡ setting
  range : SettingInRange setting

-- that holds of a pixel written in an accepted call, from bytes and by a curve of targets
from_bytes : (n : ℕ) (setting : Setting) (method : Method) (curve source bytes : List ℕ) → SettingInRange setting
    → (n ≡ 0 → EntriesInRange curve) → Bytes source
    → (w : Written) → w among if_accepted n (pixels_written setting method curve source bytes) [] → FromBytes setting w
from_bytes n setting method curve source bytes ok targets samples w m =
    let (accepted, member) = in_accepted n _ w m in
    let (i, inside, e) = tabulate_member _ (length source / 3) w member in
    let in-range = pixel_in_range source samples i in
    subst (FromBytes setting) (sym e)
    (record { input = in-range; entry = targets accepted _ (intensity_in_range _ in-range); under = refl; range = ok })

-- where it is exact and keeps demand 3's rules too, it keeps the widths
written_widths : {setting : Setting} (w : Written) → FromBytes setting w → WrittenExact w → WrittenAccurate w → WrittenWidths w
written_widths w from exact rules =
    widths_under w.setting w.method w.entry w.input w.output (subst SettingInRange (sym from.under) from.range) from.input
    from.entry exact rules

-- and at amount 1 those of the full balance
written_balance : (w : Written) → FromBytes full w → WrittenExact w → WrittenAccurate w → WrittenBalanceWidths w
written_balance w from exact rules =
    (subst (λ (s : Setting). WidthsUnder s w.method w.entry w.input w.output) from.under (written_widths w from exact rules)
    ).beside refl

-- what a call asks to be coloured is bytes
requested_bytes : (c : Call) → WellFormed c → Bytes (requested c).source
requested_bytes opening ok = λ i. omega arith
requested_bytes (measuring strip) ok = λ i. omega arith
requested_bytes (fixing choice) ok = λ i. omega arith
requested_bytes (colouring q) ok = ok

-- a book's entries are targets
entries_are_targets : (curve : Option (List ℕ)) → ((c : List ℕ) → curve ≡ some c → IsToneCurve c) → EntriesInRange (entries curve)
entries_are_targets none shape = λ s le. omega arith
entries_are_targets (some c) shape = (shape c refl).range

-- whatever the dial, the setting that the book reads is in range
read_in_range : (d : Dial) → SettingInRange (setting_read d)
read_in_range d = subst SettingInRange (sym (reads d).setting) (setting_in_range d)

pub calls_keep_widths : CallsKeepWidths
calls_keep_widths calls ok before t o w m =
    let accurate = (accuracy calls ok).steps before t o in
    let q = requested t.call in
    let from = from_bytes (number t) (setting_read q.dial) (method_of q.method) (entries t.book.curve) q.source t.outcome.bytes
    (read_in_range q.dial)
    (λ e. entries_are_targets t.book.curve accurate.shape)
    (requested_bytes t.call (step_brings calls ok before t o)) w m in
    written_widths w from (accurate.colouring.exact w m) (accurate.colouring.rules w m)

pub host_keeps_widths : HostKeepsWidths
host_keeps_widths c bytes w m =
    let accurate = host_accurate.colourings c bytes in
    let from = from_bytes (colour_outcome c).number full (method_of c.method) (curve_entries c.curve) c.source (colour_outcome c).bytes
    (omega arith)
    (λ e. (host_accurate.shapes c e).range)
    bytes w m in
    written_balance w from (accurate.exact w m) (accurate.rules w m)

pub streams_keep_widths : StreamsKeepWidths
streams_keep_widths c bytes w m =
    let accepted = (in_accepted (before_stream c) _ w m).0 in
    let from = from_bytes (before_stream c) c.setting (method_of c.method) (curve_entries c.curve) c.stream (stream_colour c).bytes
    (opened c.curve c.method c.setting accepted).in_range
    (λ e. (streams_are_accurate.shapes c e).range)
    bytes w m in
    written_widths w from (streams_are_accurate.exact c w m) (streams_are_accurate.rules c bytes w m)

pub files_keep_widths : FilesKeepWidths
files_keep_widths file bytes accepted w m =
    let method = method_of file_method in
    let curve = own_curve (file_samples file) in
    let source = file_samples file in
    let made = file_colouring file accepted bytes in
    let member = made.member w m in
    let from = from_bytes 0 full method curve source (coloured_under full method curve source) (omega arith) (λ e. made.tone.range) made.bytes w member in
    written_balance w from (coloured_pixels_are_exact full method curve source w member)
    (coloured_pixels_are_accurate full method curve source (omega arith) made.tone made.bytes w member)
