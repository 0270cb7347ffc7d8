-- What the program `replay` does with a line of a script, and answers.
use Rattle.std.specs.Prelude.{◌≡◌, cond, List, [], ◌∷◌, ℕ, eqb, get_or, set}
use Rattle.hexadecimal.specs.Hexadecimal.{decoded}
use Rattle.words.specs.Words.{word_in}
use Rattle.answers.specs.Answers.{number_text, bytes_text, WritesAnswer}
use Rattle.script.specs.declared.Command.{Command}
use Rattle.script.specs.declared.Command.TheVariants.{Open, Measure, Fix, Colour, Move}
use Rattle.pixel.specs.MoveOne.{Moved, moved_one}
use Rattle.pixel.specs.Strip.{pixel_from}
use Rattle.pixel.specs.declared.Pixel.{Pixel}
use Rattle.shot.specs.Reachable.{Reachable}
use Rattle.shot.specs.Shot.{opened, Outcome}
use Rattle.shot.specs.declared.Answer.{Answer}
use Rattle.shot.specs.declared.Shot.{Shot}
use Rattle.book.specs.Book.{Call, Call.opening, Call.measuring, Call.fixing, Call.colouring}
use Rattle.book.specs.Run.{step}
use Rattle.interpreter.specs.declared.Shots.{Shots}

-- The shots with which a script starts are newly opened.
abbrev pub new_shots : Shots
new_shots = record { all = opened ∷ opened ∷ opened ∷ opened ∷ [] }

-- The place of the shot with a number from 1 to 4. (A line that is read as a call has no other.)
abbrev pub place_of : ℕ → ℕ
place_of number = cond (eqb number 1) 0 (cond (eqb number 2) 1 (cond (eqb number 3) 2 3))

-- The shot with this number.
abbrev pub shot_of : Shots → ℕ → Shot
shot_of shots number = get_or shots.all (place_of number) opened

-- The shots, with this one in the place of its number.
abbrev pub with_shot : Shots → ℕ → Shot → Shots
with_shot shots number shot = record { all = set shots.all (place_of number) shot }

-- Every shot came from opening, measuring and fixing.
pub record AllReachable (shots : Shots) : Type 0 where
  pub each : (number : ℕ) → Reachable (shot_of shots number)

-- What a command of a script asks for: a call on one of its shots, or a single move.
pub data Request : Type 0 where
  calling : (shot : ℕ) → (call : Call) → Request
  moving : (method : ℕ) → (pixel : Pixel) → (target : ℕ) → Request

-- What a command of a line asks for. (- has no pair of digits, so it stands for no byte.)
abbrev pub request_in : List ℕ → Command → Request
request_in line (Open shot) = calling shot opening
request_in line (Measure shot strip) = calling shot (measuring (decoded (word_in line strip)))
request_in line (Fix shot choice) = calling shot (fixing choice)
request_in line (Colour shot method dial source destination) =
    calling shot
    (colouring
    (record { method = method; dial = dial; source = decoded (word_in line source); destination = decoded (word_in line destination) }))
request_in line (Move method pixel target) = moving method (pixel_from (decoded (word_in line pixel)) 0) target

-- The text of a call's answer: its number, and of a colouring also the bytes that it leaves.
abbrev pub call_text : Call → Outcome → List ℕ
call_text opening outcome = number_text outcome.answer.number
call_text (measuring strip) outcome = number_text outcome.answer.number
call_text (fixing choice) outcome = number_text outcome.answer.number
call_text (colouring request) outcome = bytes_text outcome.answer.number outcome.bytes

-- The text of a single move's answer: its number, and the pixel.
abbrev pub moved_text : Moved → List ℕ
moved_text moved = bytes_text moved.number (moved.pixel.r ∷ moved.pixel.g ∷ moved.pixel.b ∷ [])

-- What a command leaves: the shots, and the text of its answer.
pub record Reply : Type 0 where
  pub shots : Shots
  pub text : List ℕ

-- The shot that a call handed back goes to the place of its number.
abbrev pub kept : Shots → ℕ → Answer → List ℕ → Reply
kept shots number answer text = record { shots = with_shot shots number answer.shot; text = text }

-- A call on the shot with this number. `step` is what a list of calls is made of, of which demand 3 speaks.
abbrev pub on_shot : Shots → ℕ → Call → Reply
on_shot shots number call =
    let outcome = step (shot_of shots number) call in
    kept shots number outcome.answer (call_text call outcome)

-- What is done on request.
abbrev pub reply_to : Shots → Request → Reply
reply_to shots (calling shot call) = on_shot shots shot call
reply_to shots (moving method pixel target) = record { shots = shots; text = moved_text (moved_one method pixel target) }

-- What a command of a line leaves.
abbrev pub answer_to : List ℕ → Shots → Command → Reply
answer_to line shots command = reply_to shots (request_in line command)

-- What a function that carries out a command promises: the shots that it leaves are those of the reply, and its text stands at the start
-- of the output.
pub record LeavesReply (reply : Reply) (before : List ℕ) (left : Shots) (size : ℕ) (after : List ℕ) : Type 0 where
  pub shots : left ≡ reply.shots
  pub text : WritesAnswer reply.text before size after

-- Claim: whatever the command, the shots that it leaves came from opening, measuring and fixing too. Proved: proofs/Premise.antt,
-- `replies_keep_premise`.
abbrev pub RepliesKeepPremise : Type 0
RepliesKeepPremise =
    (line : List ℕ) (shots : Shots) (command : Command) → AllReachable shots → AllReachable (answer_to line shots command).shots
