-- Files and the answers to them, in figures: the reference frame of `balance`, and each refusal.
use Rattle.std.specs.Prelude.{◌≡◌, List, [], ◌∷◌, ◌++◌, map, ℕ, replicate}
use Rattle.text.specs.Text.{ascii}
use Rattle.still.specs.Still.{answer}

-- A file, and what is written for it.
pub record Example : Type 0 where
  pub file : List ℕ
  pub written : List ℕ

infix 40 ◌gives◌
abbrev pub ◌gives◌ : List ℕ → List ℕ → Example
file gives written = record { file = file; written = written }

-- The header of two pixels, and that header with two grey pixels of these samples.
abbrev pub two_pixels : List ℕ
two_pixels = ascii "P6\n2 1\n255\n"

abbrev pub two_greys : ℕ → ℕ → List ℕ
two_greys a b = two_pixels ++ replicate 3 a ++ replicate 3 b

unfoldable pub examples : List Example
examples =
    -- "input P6, LF, 2 1, LF, 255, LF, then bytes 100, 100, 100, 200, 200, 200: output the same header", then "98 three times and 157 three
    -- times" (document 02, wish 3)
    (two_greys 100 200 gives two_greys 98 157)
    -- by method 2: method 1 would give other samples
    ∷ (two_pixels ++ (10 ∷ 20 ∷ 30 ∷ 255 ∷ 255 ∷ 255 ∷ []) gives two_pixels ++ (58 ∷ 98 ∷ 137 ∷ 255 ∷ 255 ∷ 255 ∷ []))
    -- the darker pixels of an intensity's share, black ones too: (0, 0, 1) has 3 / 4, and the entry 472
    ∷ (two_pixels ++ (0 ∷ 0 ∷ 0 ∷ 0 ∷ 0 ∷ 1 ∷ []) gives two_pixels ++ (0 ∷ 0 ∷ 0 ∷ 108 ∷ 108 ∷ 255 ∷ []))
    -- the header is written without leading zeros
    ∷ (ascii "P6 002 01 0255 " ++ replicate 3 100 ++ replicate 3 200 gives two_greys 98 157)
    -- and without comments
    ∷ (ascii "P6\n# job label\n2 1 # 2 pixels\r255\n" ++ replicate 3 100 ++ replicate 3 200 gives two_greys 98 157)
    -- 12; 13, also where samples are missing; 14, also where bytes follow
    ∷ ([] gives ascii "refused 12\n")
    ∷ (ascii "P6\n2 1\n255" gives ascii "refused 12\n")
    ∷ (ascii "P6\n2 1\n254\n" gives ascii "refused 13\n")
    ∷ (ascii "P6\n0 1\n255\n " gives ascii "refused 14\n")
    -- 15: no samples, one too few; 16: one byte too many, a second picture
    ∷ (two_pixels gives ascii "refused 15\n")
    ∷ (two_pixels ++ replicate 5 100 gives ascii "refused 15\n")
    ∷ (two_greys 100 200 ++ (10 ∷ []) gives ascii "refused 16\n")
    ∷ (two_greys 100 200 ++ two_greys 100 200 gives ascii "refused 16\n")
    ∷ []

-- Claim: every example holds. Proved: proofs/Examples.antt, `examples_hold`.
abbrev pub ExamplesHold : Type 0
ExamplesHold = map (λ e. answer e.file) examples ≡ map (λ e. e.written) examples
