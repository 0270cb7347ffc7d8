-- The claims about the host's calls are not empty: calls whose answers and bytes are computed. Where a call breaks several rules, the
-- first of them is named.
use Rattle.std.specs.Prelude.{◌≡◌, true, List, [], ◌∷◌, ◌++◌, map, ℕ, length, replicate}
use Rattle.refusal.specs.Refusal.{first_of}
use Rattle.tables.specs.Table.{at}
use Rattle.witness.specs.Strips.{two, one, both, uneven}
use Rattle.strip_curve.specs.OneStrip.{strip_checks_of}
use Rattle.curve_bytes.specs.CurveBytes.{curve_bytes}
use Rattle.host.specs.Accuracy.{written}
use Rattle.host.specs.Host.{Outcome, CurveCall, curve_checks, curve_outcome, ColourCall, colour_outcome}

-- A run for a curve, with bytes in it that are no curve.
unfoldable pub run : List ℕ
run = replicate 1532 9

-- A curve call with a strip, a choice and a lent run.
abbrev pub curve_call : List ℕ → ℕ → List ℕ → CurveCall
curve_call strip choice lent = record { strip = strip; choice = choice; curve = lent }

-- (curve_call uneven 3 []) breaks 4, 10 and 2.
unfoldable pub curve_calls : List CurveCall
curve_calls =
    curve_call uneven 3 []
    ∷ curve_call uneven 1 []
    ∷ curve_call uneven 1 run
    ∷ curve_call [] 1 run
    ∷ curve_call two 1 run
    ∷ curve_call two 2 run
    ∷ []

-- The bytes, in what a call leaves, of the entries for the intensities 59, 60, 61, 629, 630 and 631.
abbrev pub bytes_around : Outcome → List ℕ
bytes_around o =
    map (at o.bytes) (118 ∷ 119 ∷ 120 ∷ 121 ∷ 122 ∷ 123 ∷ 1258 ∷ 1259 ∷ 1260 ∷ 1261 ∷ 1262 ∷ 1263 ∷ [])

-- The bytes of a curve that is 120 for every intensity from 1 to 764.
unfoldable pub level : List ℕ
level = curve_bytes (0 ∷ replicate 764 120 ++ (765 ∷ []))

-- The same with entry 764 lower than the one before.
unfoldable pub falling : List ℕ
falling = curve_bytes (0 ∷ replicate 763 120 ++ (119 ∷ 765 ∷ []))

-- The same with entry 765 as low as the others.
unfoldable pub dim : List ℕ
dim = curve_bytes (0 ∷ replicate 765 120)

-- A colour call with a curve, a method, a source and a destination.
abbrev pub colour_call : List ℕ → ℕ → List ℕ → List ℕ → ColourCall
colour_call curve method source destination =
    record { curve = curve; method = method; source = source; destination = destination }

-- (colour_call one 3 uneven one) breaks every rule: 10, 11, 7, 2 and 8. The last call is lent a curve that a curve call wrote.
unfoldable pub colour_calls : List ColourCall
colour_calls =
    colour_call one 3 uneven one
    ∷ colour_call run 3 uneven one
    ∷ colour_call falling 1 two both
    ∷ colour_call dim 1 two both
    ∷ colour_call level 3 uneven one
    ∷ colour_call level 2 uneven one
    ∷ colour_call level 2 two one
    ∷ colour_call level 1 two both
    ∷ colour_call level 2 two both
    ∷ colour_call level 1 [] []
    ∷ colour_call (curve_outcome (curve_call two 2 run)).bytes 2 both two
    ∷ []

-- Claim: these are the numbers, the pixels written and the bytes of those calls. Proved: proofs/Host.antt, `witness_runs`.
pub record WitnessRuns : Type 0 where
  pub curve_numbers : map (λ c. (curve_outcome c).number) curve_calls ≡ 4 ∷ 10 ∷ 2 ∷ 5 ∷ 0 ∷ 0 ∷ []
  -- 3, which needs more pixels than can be listed here, by the strip's length: the limit, one pixel more, and a byte more than that
  pub lengths : map (λ n. first_of (curve_checks true true (strip_checks_of n))) (50331648 ∷ 50331651 ∷ 50331652 ∷ []) ≡ 0 ∷ 3 ∷ 2 ∷ []
  pub untouched : (curve_outcome (curve_call uneven 1 run)).bytes ≡ run
  -- the strip has a pixel of intensity 60 and one of intensity 630; the cube curve's entries there are 0, 293, 382, 382, 472 and 765,
  -- the equalised one's 0, 191, 383, 383, 574 and 765
  pub cube : bytes_around (curve_outcome (curve_call two 1 run)) ≡ 0 ∷ 0 ∷ 37 ∷ 1 ∷ 126 ∷ 1 ∷ 126 ∷ 1 ∷ 216 ∷ 1 ∷ 253 ∷ 2 ∷ []
  pub equalised : bytes_around (curve_outcome (curve_call two 2 run)) ≡ 0 ∷ 0 ∷ 191 ∷ 0 ∷ 127 ∷ 1 ∷ 127 ∷ 1 ∷ 62 ∷ 2 ∷ 253 ∷ 2 ∷ []
  pub colour_numbers : map (λ c. (colour_outcome c).number) colour_calls ≡ 10 ∷ 11 ∷ 11 ∷ 11 ∷ 7 ∷ 2 ∷ 8 ∷ 0 ∷ 0 ∷ 0 ∷ 0 ∷ []
  pub pixels : map (λ c. length (written c)) colour_calls ≡ 0 ∷ 0 ∷ 0 ∷ 0 ∷ 0 ∷ 0 ∷ 0 ∷ 2 ∷ 2 ∷ 0 ∷ 2 ∷ []
  pub colour_bytes : map (λ c. (colour_outcome c).bytes) colour_calls
      ≡ one
      ∷ one
      ∷ both
      ∷ both
      ∷ one
      ∷ one
      ∷ one
      ∷ (31 ∷ 40 ∷ 49 ∷ 38 ∷ 40 ∷ 42 ∷ [])
      ∷ (20 ∷ 40 ∷ 60 ∷ 36 ∷ 40 ∷ 44 ∷ [])
      ∷ []
      ∷ (32 ∷ 64 ∷ 96 ∷ 119 ∷ 128 ∷ 136 ∷ [])
      ∷ []
