-- Laws of the patterns of floats: the one of `f32::NAN` stands for NaN, and each can be written.
use mathlib.Core.Path.{◌≡◌, refl, sym, ap, ◌∙◌}
use mathlib.Core.Bool.{true, false≢true}
use mathlib.Core.List.{List}
use Prim.Native.Nat.{ℕ, zero, suc, ◌^◌, ◌<◌}
use native.Mathlib.Omega.{arith}
use borrow.Author.Tests.{eq-eqb}
use lib.Ieee.{Float, nan, inf, fin, binary32, is_nan, of_bits, to_bits}
use lib.Ieee.Bits.{of_bits-to_bits, to_bits-lt}
use lib.ListN.{length, take}
use lib.Seq.{take-length}
use Rattle.tables.specs.Table.{at}
use Rattle.text.specs.Text.{ascii, Writes}
use Rattle.text.proofs.Runs.{writes_front, writes_length}
use Rattle.scanning.proofs.Texts.{lengths_differ}
use Rattle.hexadecimal.specs.Hexadecimal.{encoded}
use Rattle.hexadecimal.proofs.Hexadecimal.{hexadecimal_means}
use Rattle.dial_words.specs.DialWords.{pattern_of, float_of, pattern_bytes, FloatsAreWritten}
use Rattle.std.specs.Prelude.{Some}

-- the pattern of `f32::NAN` is one of NaN
pub the_nan : of_bits binary32 2143289344 ≡ nan
unfolding of_bits
the_nan = refl

-- NaN is one float (cited by nothing, as the next; docs/PORT.md names both)
the_one_nan : (x : Float) → is_nan x ≡ true → x ≡ nan
unfolding is_nan
the_one_nan nan is = refl
the_one_nan (inf s) is = absurd (false≢true is)
the_one_nan (fin s m e) is = absurd (false≢true is)

-- a text as long as the run that it is written to is all that the run then holds
pub writes_all : {end : ℕ} {text run output : List ℕ} → Writes 0 text run end output → length text ≡ length run → output ≡ text
writes_all {end} {text} {run} {output} wrote same =
    let all : length output ≡ end = omega (arith, same, wrote.ends, writes_length wrote (omega (arith, same, wrote.ends))) in
    sym (take-length output) ∙ ap (λ (n : ℕ). take n output) all ∙ writes_front wrote

-- the bytes of a pattern are bytes,
bytes_small : (n : ℕ) → n < 2 ^ 32 → (i : ℕ) → at (pattern_bytes n) i < 256
bytes_small n less zero = omega arith
bytes_small n less (suc zero) = omega arith
bytes_small n less (suc (suc zero)) = omega arith
bytes_small n less (suc (suc (suc zero))) = omega arith
bytes_small n less (suc (suc (suc (suc i)))) = omega arith

-- and stand for it
pattern_back : (n : ℕ) → pattern_of (pattern_bytes n) ≡ n
pattern_back n = omega arith

pattern_written : (n : ℕ) → n < 2 ^ 32 → float_of (encoded (pattern_bytes n)) ≡ Some (of_bits binary32 n)
unfolding float_of
pattern_written n less =
    let digits = encoded (pattern_bytes n) in
    let eight : length digits ≡ 8 = hexadecimal_means.twice (pattern_bytes n) in
    rw (
      lengths_differ digits (ascii "nan") (λ same. omega arith),
      eq-eqb (length digits) 8 eight,
      hexadecimal_means.pairs (pattern_bytes n) (bytes_small n less),
      hexadecimal_means.read_back (pattern_bytes n) (bytes_small n less),
      pattern_back n,
    )
    refl

pub floats_are_written : FloatsAreWritten
floats_are_written = record {
  patterns = pattern_written;
  floats = λ x fits. pattern_written (to_bits binary32 x) (to_bits-lt binary32 x fits) ∙ ap Some (of_bits-to_bits binary32 x fits);
}
