-- `still::write_picture` meets its contract.
use Rattle.still.specs.Inner.{PictureFits}
use Rattle.netpbm.specs.Header.{header_text}
use mathlib.Core.Path.{◌≡◌, ap, subst, ◌∙◌}
use mathlib.Core.List.{List}
use Prim.Native.Nat.{ℕ, ◌+◌, ◌-◌, ◌≤◌, zero-le}
use native.Mathlib.Omega.{arith}
use borrow.Rule.Slice.PartMut.{put_mid}
use lib.ListN.{length}
use Rattle.text.specs.Text.{Writes}
use Rattle.text.proofs.Runs.{writes_room, writes_more, part_writes}
use Rattle.pixel.specs.Methods.{method_of}
use Rattle.colouring.specs.Colouring.{coloured_strip}
use Rattle.netpbm.proofs.Written.{written_headers_fit}
use Rattle.still.specs.Still.{file_method, balanced, picture, output_limit}
use Rattle.still.proofs.Samples.{whole_shot, balanced_length}
use Rattle.still.proofs.write_picture.Goals as goal

-- after the header there is room for the samples
room : {width height samples : ℕ} {before after : List ℕ} {first : ℕ} → PictureFits width height samples → output_limit ≤ length before
    → Writes 0 (header_text width height) before first after → first + samples ≤ length after
room {width} {height} fits limit wrote =
    writes_room wrote _ (omega (arith, written_headers_fit width height fits.some fits.most, wrote.ends, fits.exact, fits.most, limit))

pub write_header-first-requires : goal.write_header-first-requires
write_header-first-requires c =
    let fits = c.args.image.now.fits in
    omega (arith, written_headers_fit c.args.image.now.header.width c.args.image.now.header.height fits.some fits.most, c.requires)

pub slice_bounds-colour_strip-end : goal.slice_bounds-colour_strip-end
slice_bounds-colour_strip-end c = room c.args.image.now.fits c.requires c.write_header-first.ensures

pub returns : goal.returns
unfolding picture balanced
returns c =
    let fits = c.args.image.now.fits in
    let samples = c.args.image.now.samples.now in
    let first = c.write_header-first.result in
    let before = c.write_header-first.new.output in
    let piece = c.colour_strip.new.destination in
    let is : piece ≡ balanced samples =
    c.colour_strip.ensures ∙ ap (λ (curve : List ℕ). coloured_strip (method_of file_method) curve samples) c.args.image.now.own_curve in
    let size : length piece ≡ first + length samples - first =
    ap length is ∙ balanced_length samples (whole_shot _ _ fits.exact fits.some fits.most).whole ∙ omega arith in
    let inside : first + length samples ≤ length before = room fits c.requires c.write_header-first.ensures in
    writes_more c.write_header-first.ensures zero-le
    (subst (λ (written : List ℕ). Writes first written before (first + length samples) (put_mid first (first + length samples - first) before piece))
    is
    (part_writes first (first + length samples) piece before (omega arith) size))
