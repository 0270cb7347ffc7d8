-- What an accepted header keeps.
use mathlib.Core.Path.{◌≡◌, refl, subst}
use mathlib.Core.Bool.{Bool, true, false, ◌||◌, not, cond}
use mathlib.Core.List.{List}
use Prim.Native.Nat.{ℕ, ◌+◌, ◌*◌, ◌≤◌}
use native.Mathlib.Omega.{arith}
use borrow.Author.Tests.{eqb-false, ltb-false}
use lib.Dec.{eqb, ltb}
use lib.ListN.{length, take, length-take}
use Rattle.std.proofs.Common.{Ok, Err, IfOk}
use Rattle.refusal.specs.declared.Refusal.{Refusal}
use Rattle.refusal.specs.declared.Refusal.TheVariants.{HeaderMalformed}
use Rattle.tables.specs.Table.{at}
use Rattle.scanning.specs.Scanning.{is_space}
use Rattle.netpbm.specs.Header.{header_limit, area_limit, field_at, after_number, judged, has_letters, header_in, HeaderFits, AcceptedHeadersFit, Reading, Accepted, Malformed, OtherLargest, OtherSize, FieldReading}
use Rattle.netpbm.proofs.Bytes.{space_within}

-- a reading fits a file if its header, where it has one, does
abbrev Fits : ℕ → Reading → Type 0
Fits file reading = IfOk reading (λ header. HeaderFits header file)

module _ (P : Reading → Type 0) (refused : (refusal : Refusal) → P (Err refusal)) where
  after_number_lem : (field : FieldReading) (next : ℕ → ℕ → Reading) → ((n end : ℕ) → P (next n end)) → P (after_number field next)
  after_number_lem (Ok field) next each = each field.number field.end
  after_number_lem (Err refusal) next each = refused refusal

  or_malformed : (test : Bool) (reading : Reading) → (test ≡ true → P reading) → P (cond test reading Malformed)
  or_malformed true reading each = each refl
  or_malformed false reading each = refused HeaderMalformed

  -- what holds of every refusal, and of every answer for a header of the right form, holds of each
  header_is : (bytes : List ℕ)
      → ((width height largest end : ℕ) → is_space (at bytes end) ≡ true → P (judged width height largest (end + 1)))
      → P (header_in bytes)
  unfolding header_in
  header_is bytes each =
      or_malformed (has_letters bytes) _ (λ _.
      after_number_lem (field_at bytes 2) _ (λ width end₁.
      after_number_lem (field_at bytes end₁) _ (λ height end₂.
      after_number_lem (field_at bytes end₂) _ (λ largest end₃.
      or_malformed (is_space (at bytes end₃)) _ (each width height largest end₃)))))

judged_fits : (file width height largest start : ℕ) → start ≤ file → start ≤ header_limit → Fits file (judged width height largest start)
judged_fits file width height largest start starts short =
    go (not (eqb largest 255)) (eqb area 0) (ltb area_limit area) (eqb-false area 0) (ltb-false area_limit area)
  where
    area : ℕ
    area = width * height

    go : (other none over : Bool) → (none ≡ false → area ≡ 0 → ⊥) → (over ≡ false → area ≤ area_limit)
        → Fits file (cond other OtherLargest (cond (none || over) OtherSize (Accepted (record { width = width; height = height; start = start }))))
    go true none over some most = tt
    go false true over some most = tt
    go false false true some most = tt
    go false false false some most =
        record { starts = starts; short = short; some = omega (arith, some refl); most = most refl }

pub accepted_headers_fit : AcceptedHeadersFit
accepted_headers_fit file header reads =
    subst (Fits (length file)) reads
    (header_is (Fits (length file)) (λ _. tt) (take header_limit file) (λ width height largest end space.
    let within = space_within (take header_limit file) end space in
    judged_fits (length file) width height largest (end + 1)
    (omega (arith, length-take header_limit file))
    (omega (arith, length-take header_limit file))))
