-- `netpbm::read_field` meets its contract.
use Rattle.std.proofs.Common.{sym, arith}
use Rattle.netpbm.proofs.Fields.{field_none, scan_end, scanned}
use Rattle.netpbm.proofs.read_field.Goals as goal
use Rattle.netpbm.proofs.read_field.Goals.{then-first-place-via-then-first-place, then-first-place-via-else-first-place+then-end-first, then-first-place-via-else-first-place+else-end-first+then-end-first-gt-DIGIT_LIMIT}

pub returns-then-first-place : goal.returns-then-first-place
returns-then-first-place c =
    let first = c.white_end-first.ensures in
    let end = scan_end _ _ _ _ first c.run_end-end.ensures in
    sym (field_none _ _ (λ spaces some most.
    elim c.then-first-place.branch [
      | then-first-place-via-then-first-place w ↦ omega arith
      | then-first-place-via-else-first-place+then-end-first w ↦ omega arith
      | then-first-place-via-else-first-place+else-end-first+then-end-first-gt-DIGIT_LIMIT w ↦ omega arith
    ]))

pub slice_bounds-read_decimal-end : goal.slice_bounds-read_decimal-end
slice_bounds-read_decimal-end c =
    let found = scanned _ _ _ _ c.white_end-first.ensures c.run_end-end.ensures c.if-first-place.false c.if-end-first.false
    c.if-end-first-gt-DIGIT_LIMIT.false in
    found.within

pub read_decimal-number-requires : goal.read_decimal-number-requires
read_decimal-number-requires c =
    let found = scanned _ _ _ _ c.white_end-first.ensures c.run_end-end.ensures c.if-first-place.false c.if-end-first.false
    c.if-end-first-gt-DIGIT_LIMIT.false in
    (omega (arith, found.few), found.digits)

pub overflow_cast-number : goal.overflow_cast-number
overflow_cast-number c =
    let found = scanned _ _ _ _ c.white_end-first.ensures c.run_end-end.ensures c.if-first-place.false c.if-end-first.false
    c.if-end-first-gt-DIGIT_LIMIT.false in
    omega (arith, c.read_decimal-number.ensures, found.small)

-- the digits give the field's number, and where they end the field does
pub returns : goal.returns
returns c =
    let found = scanned _ _ _ _ c.white_end-first.ensures c.run_end-end.ensures c.if-first-place.false c.if-end-first.false
    c.if-end-first-gt-DIGIT_LIMIT.false in
    rw c.read_decimal-number.ensures (sym found.field)
