-- Lines of scripts, and what they are read as.
use Rattle.std.specs.Prelude.{◌≡◌, true, false, List, [], ◌∷◌, ◌++◌, map, ℕ, pos, negsuc}
use Rattle.std.specs.Float.{nan, inf, fin}
use Rattle.text.specs.Text.{ascii}
use Rattle.words.specs.declared.Fault.TheVariants.{NoSuchCall, TooFewWords, TooManyWords, NotANumber, NoSuchShot, NotPairs, NotAPixel, NoSuchDial, NotAFloat}
use Rattle.words.specs.declared.Word.{Word}
use Rattle.dial.specs.declared.Dial.TheVariants.{Off, Mix, Hold}
use Rattle.script.specs.Script.{ScriptLine, Blank, Calls, NoCall, line_of}
use Rattle.script.specs.declared.Command.TheVariants.{Open, Measure, Fix, Colour, Move}

-- A line, and what it is read as.
pub record Example : Type 0 where
  pub line : List ℕ
  pub reading : ScriptLine

infix 40 ◌reads◌
abbrev pub ◌reads◌ : List ℕ → ScriptLine → Example
line reads reading = record { line = line; reading = reading }

-- The word from one place up to another.
infix 45 ◌up_to◌
abbrev pub ◌up_to◌ : ℕ → ℕ → Word
start up_to end = record { start = start; end = end }

unfoldable pub examples : List Example
examples =
    -- each call
    (ascii "open 1" reads Calls 1 (Open 1))
    ∷ (ascii "measure 2 646464c8c8c8" reads Calls 1 (Measure 2 (10 up_to 22)))
    ∷ (ascii "measure 3 -" reads Calls 1 (Measure 3 (10 up_to 11)))
    ∷ (ascii "fix 4 4294967295" reads Calls 1 (Fix 4 4294967295))
    ∷ (ascii "colour 1 2 off AbCdEf 000000" reads Calls 1 (Colour 1 2 Off (15 up_to 21) (22 up_to 28)))
    ∷ (ascii "move 1 6496c8 300" reads Calls 1 (Move 1 (7 up_to 13) 300))
    -- the dial: 1, 300, NaN, -0, infinity, the least float above 0, and patterns of NaN
    ∷ (ascii "colour 1 2 mix 3f800000 - -" reads Calls 1 (Colour 1 2 (Mix (fin false 1 (pos 0))) (24 up_to 25) (26 up_to 27)))
    ∷ (ascii "colour 1 2 hold 43960000 - -" reads Calls 1 (Colour 1 2 (Hold (fin false 75 (pos 2))) (25 up_to 26) (27 up_to 28)))
    ∷ (ascii "colour 1 2 mix nan - -" reads Calls 1 (Colour 1 2 (Mix nan) (19 up_to 20) (21 up_to 22)))
    ∷ (ascii "colour 1 2 mix 80000000 - -" reads Calls 1 (Colour 1 2 (Mix (fin true 0 (pos 0))) (24 up_to 25) (26 up_to 27)))
    ∷ (ascii "colour 1 2 hold 7f800000 - -" reads Calls 1 (Colour 1 2 (Hold (inf false)) (25 up_to 26) (27 up_to 28)))
    ∷ (ascii "colour 1 2 mix 00000001 - -" reads Calls 1 (Colour 1 2 (Mix (fin false 1 (negsuc 148))) (24 up_to 25) (26 up_to 27)))
    ∷ (ascii "colour 1 2 mix 7fc00000 - -" reads Calls 1 (Colour 1 2 (Mix nan) (24 up_to 25) (26 up_to 27)))
    ∷ (ascii "colour 1 2 mix 7f800001 - -" reads Calls 1 (Colour 1 2 (Mix nan) (24 up_to 25) (26 up_to 27)))
    ∷ (ascii "colour 1 2 hold FF800001 - -" reads Calls 1 (Colour 1 2 (Hold nan) (25 up_to 26) (27 up_to 28)))
    -- repeated, also not at all
    ∷ (ascii "repeat 3 fix 1 0000000002" reads Calls 3 (Fix 1 2))
    ∷ (ascii "repeat 0 open 1" reads Calls 0 (Open 1))
    -- white space of every kind, and comments
    ∷ ((32 ∷ 9 ∷ []) ++ ascii "open" ++ (11 ∷ 12 ∷ []) ++ ascii "1" ++ (13 ∷ []) reads Calls 1 (Open 1))
    ∷ (ascii "open 1#2" reads Calls 1 (Open 1))
    ∷ ([] reads Blank)
    ∷ (ascii "   # open 1" reads Blank)
    -- names are whole words in small letters
    ∷ (ascii "Open 1" reads NoCall NoSuchCall)
    ∷ (ascii "opens 1" reads NoCall NoSuchCall)
    ∷ (ascii "repeat 2 repeat 3 open 1" reads NoCall NoSuchCall)
    -- a word is missing, or left
    ∷ (ascii "repeat" reads NoCall TooFewWords)
    ∷ (ascii "repeat 5" reads NoCall TooFewWords)
    ∷ (ascii "colour 1 2" reads NoCall TooFewWords)
    ∷ (ascii "colour 1 2 mix" reads NoCall TooFewWords)
    ∷ (ascii "colour 1 2 off -" reads NoCall TooFewWords)
    ∷ (ascii "open 1 1" reads NoCall TooManyWords)
    -- numbers: 33 bits, eleven digits, a sign
    ∷ (ascii "fix 1 4294967296" reads NoCall NotANumber)
    ∷ (ascii "fix 1 00000000001" reads NoCall NotANumber)
    ∷ (ascii "fix 1 -1" reads NoCall NotANumber)
    ∷ (ascii "open 0" reads NoCall NoSuchShot)
    ∷ (ascii "open 5" reads NoCall NoSuchShot)
    -- an odd digit, a letter that is none, a pixel that is too long
    ∷ (ascii "measure 1 64646" reads NoCall NotPairs)
    ∷ (ascii "measure 1 6464g4" reads NoCall NotPairs)
    ∷ (ascii "move 1 6496c800 300" reads NoCall NotAPixel)
    -- a dial that is left out, one that is none, and floats of nine digits, of seven, and in capitals
    ∷ (ascii "colour 1 2 - -" reads NoCall NoSuchDial)
    ∷ (ascii "colour 1 2 -" reads NoCall NoSuchDial)
    ∷ (ascii "colour 1 2 mixed 3f800000 - -" reads NoCall NoSuchDial)
    ∷ (ascii "colour 1 2 mix 3f8000000 - -" reads NoCall NotAFloat)
    ∷ (ascii "colour 1 2 mix 3f80000 - -" reads NoCall NotAFloat)
    ∷ (ascii "colour 1 2 hold NAN - -" reads NoCall NotAFloat)
    ∷ (ascii "colour 1 2 hold - -" reads NoCall NotAFloat)
    -- the first fault is named
    ∷ (ascii "repeat x open 9 9" reads NoCall NotANumber)
    ∷ (ascii "measure 9 x x" reads NoCall NoSuchShot)
    ∷ (ascii "colour 1 x mixed" reads NoCall NotANumber)
    ∷ (ascii "colour 1 2 mix 1 x" reads NoCall NotAFloat)
    ∷ []

-- Claim: each line is read so. Proved: proofs/Examples.antt, `examples_hold`.
abbrev pub ExamplesHold : Type 0
ExamplesHold = map (λ e. line_of e.line) examples ≡ map (λ e. e.reading) examples
