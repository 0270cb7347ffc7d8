-- The lists of calls that a script makes: each of its shots has one of its own.
use Rattle.std.specs.Prelude.{◌≡◌, true, cond, List, [], ◌∷◌, ◌++◌, map, ℕ, eqb}
use Rattle.tables.specs.Table.{◌among◌}
use Rattle.words.specs.Words.{is_shot}
use Rattle.script.specs.Script.{HasCall}
use Rattle.script.specs.declared.Command.{Command}
use Rattle.shot.specs.Shot.{opened}
use Rattle.shot.specs.declared.Shot.{Shot}
use Rattle.book.specs.Accuracy.{Accurate}
use Rattle.book.specs.Book.{Call}
use Rattle.book.specs.Run.{step, Step, trace}
use Rattle.interpreter.specs.Interpreter.{new_shots, shot_of, Request, Request.calling, Request.moving, request_in, call_text, answer_to}
use Rattle.interpreter.specs.declared.Shots.{Shots}

-- A call of a script: its line, and the command that the line is read as. A line that is repeated is so many calls.
pub record ScriptCall : Type 0 where
  pub line : List ℕ
  pub command : Command

-- The shots after calls, from these shots on.
abbrev pub shots_after : Shots → List ScriptCall → Shots
shots_after shots [] = shots
shots_after shots (c ∷ calls) = shots_after (answer_to c.line shots c.command).shots calls

-- What is asked for, and this thing, if it is asked of the shot with this number.
abbrev pub if_on : {A : Type 0} → ℕ → Request → (Call → A) → List A
if_on number (calling shot call) thing = cond (eqb shot number) (thing call ∷ []) []
if_on number (moving method pixel target) thing = []

-- The calls on the shot with this number, as a list.
abbrev pub calls_on : ℕ → List ScriptCall → List Call
calls_on number [] = []
calls_on number (c ∷ calls) = if_on number (request_in c.line c.command) (λ call. call) ++ calls_on number calls

-- The texts of the answers to these, from these shots on.
abbrev pub answers_on : ℕ → Shots → List ScriptCall → List (List ℕ)
answers_on number shots [] = []
answers_on number shots (c ∷ calls) =
    let reply = answer_to c.line shots c.command in
    if_on number (request_in c.line c.command) (λ call. reply.text) ++ answers_on number reply.shots calls

-- The shot after a list of calls, from this shot on: "each call gets the shot that the last one handed back or left".
abbrev pub shot_after : Shot → List Call → Shot
shot_after x [] = x
shot_after x (call ∷ calls) = shot_after (step x call).answer.shot calls

-- The text of the answer at a step of a list.
abbrev pub step_text : Step → List ℕ
step_text t = call_text t.call t.outcome

-- Claim: whatever a script calls, its calls on one shot are a list of calls of their own, from a newly opened shot on. The shot is what
-- that list leaves; the answers are those of the list's steps; and demand 3 holds of the list. Calls on the other shots do not matter.
-- Proved: proofs/Lists.antt, `lists_run_side_by_side`.
pub record ListsRunSideBySide : Type 0 where
  pub shots : (calls : List ScriptCall) → ((c : ScriptCall) → c among calls → HasCall c.line c.command)
      → (number : ℕ) → is_shot number ≡ true
      → shot_of (shots_after new_shots calls) number ≡ shot_after opened (calls_on number calls)
  pub answers : (calls : List ScriptCall) → ((c : ScriptCall) → c among calls → HasCall c.line c.command)
      → (number : ℕ) → is_shot number ≡ true
      → answers_on number new_shots calls ≡ map step_text (trace (calls_on number calls))
  pub accurate : (calls : List ScriptCall) (number : ℕ) → Accurate (calls_on number calls)
