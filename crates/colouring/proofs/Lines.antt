-- A strip that is moved along the lines of a curve is coloured by it.
use mathlib.Core.List.{List}
use mathlib.Core.Path.{◌≡◌}
use Prim.Native.Nat.{ℕ}
use Rattle.tables.specs.Table.{at}
use Rattle.pixel.specs.Move.{Channel, Channel.red, Channel.green, Channel.blue, sample, intensity, moved_sample, moved}
use Rattle.pixel.specs.Strip.{Bytes}
use Rattle.pixel.specs.declared.Method.{Method}
use Rattle.pixel.proofs.Channels.{inside}
use Rattle.pixel.proofs.Strips.{pixels_in_range, intensity_in_range}
use Rattle.curve.specs.Curve.{EntriesInRange}
use Rattle.lines.specs.Line.{sample_at, line_at, LinesOf}
use Rattle.lines.specs.declared.FixedLine.{FixedLine}
use Rattle.colouring.specs.Colouring.{coloured_strip}
use Rattle.colouring.specs.Inner.{along_lines}
use Rattle.colouring.proofs.EachPixel.{each_pixel_same}

pub lines_colour : (method : Method) (curve : List ℕ) (lines : List FixedLine) (source : List ℕ) → LinesOf method curve lines
    → EntriesInRange curve → Bytes source → along_lines lines source ≡ coloured_strip method curve source
unfolding coloured_strip moved
lines_colour method curve lines source right range bytes =
    each_pixel_same _ _ source (λ p among.
    let small = pixels_in_range source bytes p among in
    let s = intensity p in
    let le = intensity_in_range p small in
    let same : (a : Channel) → sample_at (line_at lines s) (sample p a) ≡ moved_sample method s (at curve s) (sample p a) =
    λ a. right s le (sample p a) (inside p (at curve s) small (range s le) a) in
    λ i. record { r = same red i; g = same green i; b = same blue i })
