-- `reading::fill` meets its contract: each read puts its bytes after those that are there.
use Rattle.std.proofs.Common.{◌≡◌, ℕ, ◌+◌, ◌≤◌, List, ◌++◌, length, take, drop, sym, ap, ◌∙◌, arith, length-append}
use Rattle.std.proofs.KnownBytes.{Consumes-trans}
use Rattle.std.proofs.lemmas.List.{length-take-le, take-append-le}
use borrow.Rule.Slice.PartMut.{put_mid}
use lib.Seq.{take-append-add}
use Rattle.reading.proofs.fill.Goals as goal

-- where the bytes of a read stand
put_after : (done n k : ℕ) (buf part : List ℕ) → done ≤ length buf → n ≤ length part
    → take (done + n) (put_mid done k buf part) ≡ take done buf ++ take n part
put_after done n k buf part within few =
    let front = take done buf in
    let rest = drop k (drop done buf) in
    ap (λ (d : ℕ). take (d + n) (front ++ (part ++ rest))) (sym (length-take-le done buf within))
    ∙ take-append-add front (part ++ rest) n
    ∙ ap (λ (l : List ℕ). front ++ l) (take-append-le n part rest few)

pub loop-done-preserved : goal.loop-done-preserved
loop-done-preserved g c =
    let few = c.in-Ok.ensures.bound.0 in
    let within = c.loop-done.invariant.within in
    record {
      within = simp length-append (omega (arith, few, length-take-le c.loop-done.done c.loop-done.buf within));
      bytes = rw (put_after _ _ _ _ c.read.new.buf within few) (Consumes-trans _ _ _ _ _ c.loop-done.invariant.bytes c.in-Ok.ensures.bytes.0);
    }
