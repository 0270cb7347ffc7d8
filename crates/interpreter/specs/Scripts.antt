-- What a whole script is answered.
use Rattle.std.specs.Prelude.{◌≡◌, cond, List, [], ◌∷◌, ◌++◌, map, ℕ, zero, suc, eqb, length, Some, None, Ok, Err}
use Rattle.text.specs.Text.{ascii}
use Rattle.script.specs.Script.{ScriptLine, line_of}
use Rattle.script.specs.declared.Command.{Command}
use Rattle.answers.specs.Answers.{fault_text}
use Rattle.interpreter.specs.Interpreter.{new_shots, Reply, answer_to}
use Rattle.interpreter.specs.declared.Shots.{Shots}

-- The lines of a script, after the bytes of one that has begun: LF ends a line, and the last may lack it.
unfoldable pub lines_after : List ℕ → List ℕ → List (List ℕ)
lines_after line [] = cond (eqb (length line) 0) [] (line ∷ [])
lines_after line (byte ∷ bytes) = cond (eqb byte 10) (line ∷ lines_after [] bytes) (lines_after (line ++ (byte ∷ [])) bytes)

-- A command so many times, an answer each time.
unfoldable pub replies_to : ℕ → List ℕ → Command → Shots → Reply
replies_to zero line command shots = record { shots = shots; text = [] }
replies_to (suc times) line command shots =
    let first = answer_to line shots command in
    let rest = replies_to times line command first.shots in
    record { shots = rest.shots; text = first.text ++ rest.text }

-- What a line leaves, by its number and what it is read as: a line that is no call changes no shot.
abbrev pub line_reply : ℕ → List ℕ → ScriptLine → Shots → Reply
line_reply number line (Ok None) shots = record { shots = shots; text = [] }
line_reply number line (Ok (Some calls)) shots = replies_to calls.times line calls.command shots
line_reply number line (Err fault) shots = record { shots = shots; text = fault_text fault number }

-- The answers to lines, from this number and these shots on.
unfoldable pub answers_from : ℕ → Shots → List (List ℕ) → List ℕ
answers_from number shots [] = []
answers_from number shots (line ∷ lines) =
    let reply = line_reply number line (line_of line) shots in
    reply.text ++ answers_from (suc number) reply.shots lines

-- What a script is answered: lines are counted from 1, and all shots are newly opened.
abbrev pub answers_to : List ℕ → List ℕ
answers_to script = answers_from 1 new_shots (lines_after [] script)

-- A script, and what it is answered.
pub record Example : Type 0 where
  pub script : List ℕ
  pub answers : List ℕ

infix 68 ◌answered◌
abbrev pub ◌answered◌ : List ℕ → List ℕ → Example
script answered answers = record { script = script; answers = answers }

unfoldable pub examples : List Example
examples =
    ([] answered [])
    -- a comment and an empty line count and get no answer; CR is white space; the last line has no LF
    ∷ (ascii "open 1\n\n# note\nopen 2\r\npaint 1\nrepeat 2 open 4"
    answered ascii "0\n0\nline 5 is no call: no such call\n0\n0\n")
    -- refused calls: the shots are newly opened
    ∷ (ascii "measure 1 6464\nfix 1 1\nfix 1 3\ncolour 2 1 mix 3f800000 - C0\ncolour 2 1 hold nan - -\ncolour 2 1 - -\nmove 3 ffffff 766\nmove 2 ffffff 766\n"
    answered ascii "2\n5\n4\n6 c0\n6 -\nline 6 is no call: no such dial command: off, mix or hold\n7 000000\n9 000000\n")
    ∷ (ascii "\n\nrepeat 0 open 1\nopen 1 1\n" answered ascii "line 4 is no call: too many words\n")
    ∷ []

-- Claim: each script is answered so. Proved: proofs/Scripts.antt, `examples_hold`.
abbrev pub ExamplesHold : Type 0
ExamplesHold = map (λ e. answers_to e.script) examples ≡ map (λ e. e.answers) examples
