-- Headers, and what reading them answers: document 01's sentences and boundaries and those of document 02's wish 2, in figures.
use Rattle.std.specs.Prelude.{◌≡◌, List, [], ◌∷◌, ◌++◌, map, ℕ, replicate}
use Rattle.text.specs.Text.{ascii}
use Rattle.netpbm.specs.Header.{Reading, Accepted, Malformed, OtherLargest, OtherSize, header_of}

-- A file, and what reading its header answers.
pub record Example : Type 0 where
  pub file : List ℕ
  pub reading : Reading

infix 40 ◌reads◌
abbrev pub ◌reads◌ : List ℕ → Reading → Example
file reads reading = record { file = file; reading = reading }

-- A picture of this width and height, whose samples start at the place.
abbrev pub sized : ℕ → ℕ → ℕ → Reading
sized width height start = Accepted (record { width = width; height = height; start = start })

unfoldable pub examples : List Example
examples =
    -- the reference frame
    (ascii "P6\n2 1\n255\n" ++ (100 ∷ 100 ∷ 100 ∷ 200 ∷ 200 ∷ 200 ∷ []) reads sized 2 1 11)
    ∷ (ascii "P6 2 1 255 " reads sized 2 1 11)
    -- each kind of white space, and several in a row: space, tab, LF, VT, FF, CR
    ∷ (ascii "P6" ++ (32 ∷ 9 ∷ 10 ∷ []) ++ ascii "2" ++ (11 ∷ 12 ∷ []) ++ ascii "1" ++ (13 ∷ []) ++ ascii "255" ++ (12 ∷ []) reads sized 2 1 14)
    -- bytes beside white space, and beside the digits
    ∷ (ascii "P6" ++ (8 ∷ []) ++ ascii "2 1\n255\n" reads Malformed)
    ∷ (ascii "P6\n2 1" ++ (14 ∷ []) ++ ascii "255\n" reads Malformed)
    ∷ (ascii "P6\n2 1\n255" ++ (0 ∷ []) reads Malformed)
    ∷ (ascii "P6\n/ 1\n255\n" reads Malformed)
    ∷ (ascii "P6\n: 1\n255\n" reads Malformed)
    -- exactly one white-space byte at the end: after CR, LF is a sample
    ∷ (ascii "P6\n2 1\n255\r\n" reads sized 2 1 11)
    -- leading zeros; five digits, six digits
    ∷ (ascii "P6\n00002 00001\n00255\n" reads sized 2 1 21)
    ∷ (ascii "P6\n2 1\n000255\n" reads Malformed)
    ∷ (ascii "P6\n000002 1\n255\n" reads Malformed)
    -- a comment on a line of its own; directly after the letters and after each number but the last; one without text
    ∷ (ascii "P6\n# job label\n2 1\n255\n" reads sized 2 1 23)
    ∷ (ascii "P6#a\n2#b\n1#c\n255\n" reads sized 2 1 17)
    ∷ (ascii "P6#\n2 1 255 " reads sized 2 1 12)
    -- between white space, and several in a row
    ∷ (ascii "P6 # a\n # b\n#c\n#d\n\t2 1\n255\n" reads sized 2 1 27)
    -- LF ends one, and so does CR; after CR, LF is white space of its own
    ∷ (ascii "P6\n#a\r2 1\n255\n" reads sized 2 1 14)
    ∷ (ascii "P6\r\n#a\r\n2 1\n255\n" reads sized 2 1 16)
    -- # within one does not end it, nor do a number, tab, VT and FF
    ∷ (ascii "P6\n#a #b# 3\n2 1\n255\n" reads sized 2 1 20)
    ∷ (ascii "P6\n#a" ++ (9 ∷ 11 ∷ 12 ∷ []) ++ ascii "3\n2 1\n255\n" reads sized 2 1 18)
    -- the bytes beside # begin none
    ∷ (ascii "P6\n" ++ (34 ∷ []) ++ ascii "a\n2 1\n255\n" reads Malformed)
    ∷ (ascii "P6\n" ++ (36 ∷ []) ++ ascii "a\n2 1\n255\n" reads Malformed)
    -- digits with a comment between them are two numbers
    ∷ (ascii "P6\n1#x\n2 255\n" reads sized 1 2 13)
    -- a # that comes later is no comment: it is a sample
    ∷ (ascii "P6\n2 1\n255\n#\n" reads sized 2 1 11)
    -- none before the letters or within them, none after the largest sample value; one that never ends
    ∷ (ascii "# job\nP6\n2 1\n255\n" reads Malformed)
    ∷ (ascii "P#\n6\n2 1\n255\n" reads Malformed)
    ∷ (ascii "P6\n2 1\n255#\n" reads Malformed)
    ∷ (ascii "P6\n2 1\n255# job\n " reads Malformed)
    ∷ (ascii "P6\n2 1 # 255 " reads Malformed)
    -- 512 bytes, 513 bytes, of white space and of a comment
    ∷ (ascii "P6" ++ replicate 502 32 ++ ascii "2 1 255\n" reads sized 2 1 512)
    ∷ (ascii "P6" ++ replicate 503 32 ++ ascii "2 1 255\n" reads Malformed)
    ∷ (ascii "P6#" ++ replicate 500 120 ++ ascii "\n2 1 255\n" reads sized 2 1 512)
    ∷ (ascii "P6#" ++ replicate 501 120 ++ ascii "\n2 1 255\n" reads Malformed)
    -- nothing may be missing
    ∷ (ascii "P62 1\n255\n" reads Malformed)
    ∷ (ascii "P6\n2\n255\n" reads Malformed)
    ∷ (ascii "P6\n2 1\n255" reads Malformed)
    ∷ ([] reads Malformed)
    -- 13, 14; 13 before 14, and 12 before both
    ∷ (ascii "P6\n2 1\n254\n" reads OtherLargest)
    ∷ (ascii "P6\n0 1\n255\n" reads OtherSize)
    ∷ (ascii "P6\n16384 1\n255\n" reads sized 16384 1 15)
    ∷ (ascii "P6\n16385 1\n255\n" reads OtherSize)
    ∷ (ascii "P6\n99999 99999\n255\n" reads OtherSize)
    -- four pixels in 32 bits
    ∷ (ascii "P6\n50020 85865\n255\n" reads OtherSize)
    ∷ (ascii "P6\n00000 1\n00000\n" reads OtherLargest)
    ∷ (ascii "P6\n00000 1\n00000" reads Malformed)
    ∷ []

-- Claim: every example holds. Proved: proofs/Examples.antt, `examples_hold`.
abbrev pub ExamplesHold : Type 0
ExamplesHold = map (λ e. header_of e.file) examples ≡ map (λ e. e.reading) examples
