-- Loops that write: so far, i bytes are read from pairs of digits, or written as such.
use Rattle.std.proofs.Common.{◌≡◌, ℕ, ◌+◌, ◌*◌, ◌/◌, ◌%◌, ◌≤◌, ◌<◌, List, [], ◌∷◌, ◌++◌, length, take, refl, ap, arith, length-take}
use Rattle.std.proofs.lemmas.List.{take_more, take_all}
use lib.ListN.{set, get_or}
use Rattle.std.specs.Simd.{first_chunks}
use Rattle.tables.specs.Table.{at}
use Rattle.text.specs.Text.{Writes, Wrote}
use Rattle.text.specs.declared.Writer.{Writer}
use Rattle.text.proofs.Runs.{writes_length, writes_byte, wrote_none, wrote_more}
use Rattle.hexadecimal.specs.Hexadecimal.{digit_value, digit_code, decoded, encoded}
use Rattle.hexadecimal.proofs.Hexadecimal.{length_decoded, length_encoded, byte_at}

module _ (digits : List ℕ) {run output : List ℕ} {i : ℕ} (wrote : Writes 0 (take i (decoded digits)) run i output) where
  -- the run keeps its length (cited by nothing; docs/PORT.md names it)
  pub decoded_kept : length digits / 2 ≤ length run → length output ≡ length run
  decoded_kept fits = writes_length wrote (omega (arith, fits, wrote.ends, length-take i (decoded digits), length_decoded digits))

  -- the byte of the next pair is stored
  pub decoded_more : {pairs : List (List ℕ)} → pairs ≡ first_chunks 2 (length digits / 2) digits → length digits / 2 ≤ length run
      → i < length digits / 2
      → Writes 0 (take (i + 1) (decoded digits)) run (i + 1)
      (set output i (16 * digit_value (at (get_or pairs i []) 0) + digit_value (at (get_or pairs i []) 1)))
  decoded_more is fits less =
      rw (is, ← byte_at (length digits / 2) digits i refl less, take_more (decoded digits) i 0 (omega (arith, length_decoded digits)))
      (writes_byte wrote _ (omega arith))

  -- after the last pair all bytes are written
  pub decoded_end : i ≡ length digits / 2 → Writes 0 (decoded digits) run (length digits / 2) output
  decoded_end all = rw (take_all i (decoded digits) (omega (arith, length_decoded digits)), all) at wrote

module _ (place : ℕ) (bytes : List ℕ) {run output : List ℕ} (i : ℕ) (fits : place + 2 * length bytes ≤ length run)
    (wrote : Writes place (take (2 * i) (encoded bytes)) run (place + 2 * i) output) where
  -- the place after the digits lies within the run (this and the next cited by nothing; docs/PORT.md names both)
  pub encoded_within : place + 2 * i ≤ length run
  encoded_within = omega (arith, fits, wrote.ends, length-take (2 * i) (encoded bytes), length_encoded bytes)

  -- which keeps its length
  pub encoded_kept : length output ≡ length run
  encoded_kept = writes_length wrote encoded_within

-- the digits of one byte more
encoded_push : (bytes : List ℕ) (byte : ℕ) → encoded (bytes ++ (byte ∷ [])) ≡ encoded bytes ++ (digit_code (byte / 16) ∷ digit_code (byte % 16) ∷ [])
unfolding encoded
encoded_push [] byte = refl
encoded_push (first ∷ bytes) byte = ap (λ (digits : List ℕ). digit_code (first / 16) ∷ digit_code (first % 16) ∷ digits) (encoded_push bytes byte)

pub encoded_start : (writer : Writer) → Wrote (encoded []) writer writer
unfolding encoded
encoded_start writer = wrote_none writer

module _ (bytes : List ℕ) {start now : Writer} {i : ℕ} (wrote : Wrote (encoded (take i bytes)) start now) (less : i < length bytes)
    (fits : start.end + 2 * length bytes ≤ length start.run.now) where
  -- there is room for the digits of the next byte
  pub encoded_room : now.end + 2 ≤ length now.run.now
  encoded_room = omega (arith, fits, wrote.writes.ends, wrote.same_length, length_encoded (take i bytes), length-take i bytes)

  -- they are written
  pub encoded_more : {then : Writer} → Wrote (digit_code (at bytes i / 16) ∷ digit_code (at bytes i % 16) ∷ []) now then
      → Wrote (encoded (take (i + 1) bytes)) start then
  encoded_more pair = rw (take_more bytes i 0 less, encoded_push) (wrote_more (omega (arith, fits)) wrote pair)
