-- `measuring::count_rest` meets its contract.
use Rattle.std.proofs.Common.{[], refl, sym, arith}
use Rattle.pixel.specs.Strip.{pixel_from}
use Rattle.measuring.proofs.Counting.{with_length, with_at, pixel_fits, counting_more, counting_end}
use Rattle.std.proofs.lemmas.List.{get_or-map, length-map}
use Rattle.measuring.proofs.count_rest.Goals as goal

pub count_pixel-requires : goal.count_pixel-requires
count_pixel-requires c =
    let size = length-map c.args.pixels.now (λ bytes. pixel_from bytes 0) in
    pixel_fits c.loop-pixel.invariant.1 (omega (arith, size)) (λ s l. omega (arith, c.requires s l, size)) _ c.loop-pixel.invariant.0
    (λ s l. omega arith)

pub loop-pixel-preserved : goal.loop-pixel-preserved
loop-pixel-preserved c =
    let counted = c.count_pixel.ensures in
    let size = length-map c.args.pixels.now (λ bytes. pixel_from bytes 0) in (
      with_length _ _ counted,
      counting_more c.loop-pixel.invariant.1 _ (omega (arith, size))
          (sym (get_or-map (λ bytes. pixel_from bytes 0) c.args.pixels.now c.loop-pixel.pixel-index [] _ c.loop-pixel-test.true)) _
          (with_at _ _ counted) _ refl,
    )

pub returns : goal.returns
returns c =
    let size = length-map c.args.pixels.now (λ bytes. pixel_from bytes 0) in
    counting_end c.loop-pixel.invariant.1 _ c.loop-pixel.invariant.0 (λ s l. refl) (omega (arith, size))
