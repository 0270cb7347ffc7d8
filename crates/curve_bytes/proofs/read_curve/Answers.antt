-- `curve_bytes::read_curve` meets its contract.
use Rattle.std.proofs.Common.{◌≡◌, sym, ap, ◌∙◌, ℕ, ◌/◌, ◌<◌, length, map, [], get_or, arith, rules, refl, w16}
use lib.Seq.{ext_get_or}
use Rattle.std.proofs.iter.Serving.{serving}
use Rattle.std.specs.Int.{from_le_bytes}
use Rattle.std.proofs.lemmas.List.{get_or-map}
use Rattle.tables.specs.Table.{at}
use Rattle.tables.proofs.Made.{made_by}
use Rattle.curve_bytes.specs.CurveBytes.{curve_entries}
use Rattle.curve_bytes.proofs.CurveBytes.{length_entries, entries_of_pairs}
use Rattle.curve_bytes.proofs.read_curve.Goals as goal

pub from_fn-requires : goal.from_fn-requires
from_fn-requires c =
    let pairs : length c.as_chunks.result.0.now ≡ 766 = omega (arith, c.as_chunks.ensures.front_len) in
    grind (serving, arith, pairs)

-- One call is proved with c put out of sight: the search would enter the calls of all 766 places there.
pub returns : goal.returns
returns c =
    let bytes = c.args.bytes.now in
    let pairs = c.as_chunks.result.0.now in
    let size : length c.from_fn.result ≡ 766 = search rules in
    let read : (k : ℕ) → k < 766 → at (curve_entries bytes) k ≡ from_le_bytes w16 (get_or pairs k []) = λ k h.
    sym (ap (λ entries. at entries k) (ap (map (from_le_bytes w16)) c.as_chunks.ensures.front ∙ entries_of_pairs (length bytes / 2) bytes refl))
    ∙ get_or-map (from_le_bytes w16) pairs k [] 0 (omega (arith, c.as_chunks.ensures.front_len)) in
    ext_get_or 0 c.from_fn.result (curve_entries bytes) (omega (arith, size, length_entries bytes))
    (λ k h.
    made_by _ (λ k entry. entry ≡ from_le_bytes w16 (get_or pairs k [])) _
    (λ k entry f called. let c : ℕ = 0 in search rules) 0 c.from_fn.result 766 c.from_fn.ensures.items k (omega (arith, size))
    ∙ sym (read k (omega (arith, size))))
