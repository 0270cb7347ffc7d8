-- Replies, and the bytes that a line brings. (Cited by nothing; docs/PORT.md names this file.)
use Rattle.std.proofs.Common.{◌≡◌, ℕ, ◌/◌, ◌≤◌, List, length, take, sym, ap, subst, ◌∙◌, arith}
use lib.Seq.{length-take-le}
use Rattle.text.specs.Text.{Writes}
use Rattle.text.proofs.Runs.{writes_room, writes_front}
use Rattle.hexadecimal.specs.Hexadecimal.{decoded}
use Rattle.hexadecimal.proofs.Hexadecimal.{length_decoded}
use Rattle.script.specs.Script.{line_limit}
use Rattle.answers.specs.Answers.{byte_limit, number_text}
use Rattle.shot.specs.Shot.{Outcome}
use Rattle.shot.specs.declared.Answer.{Answer}
use Rattle.shot.specs.declared.Shot.{Shot}
use Rattle.book.specs.Book.{Call}
use Rattle.book.specs.Run.{step}
use Rattle.interpreter.specs.Interpreter.{shot_of, Reply, kept, call_text, on_shot, LeavesReply}
use Rattle.interpreter.specs.declared.Shots.{Shots}

-- an equal reply
pub replied : {reply other : Reply} {before after : List ℕ} {left : Shots} {size : ℕ} → reply ≡ other → LeavesReply reply before left size after
    → LeavesReply other before left size after
replied {before = before} {after = after} {left = left} {size = size} same leaves =
    subst (λ (r : Reply). LeavesReply r before left size after) same leaves

-- a call on the shot with its number, of which the number alone is told
pub number_reply : (shots : Shots) (number : ℕ) (call : Call) → ((o : Outcome) → call_text call o ≡ number_text o.answer.number)
    → {shot : Shot} {answer : Answer}
    → answer ≡ (step shot call).answer
    → shot ≡ shot_of shots number
    → kept shots number answer (number_text answer.number) ≡ on_shot shots number call
number_reply shots number call told called here =
    ap (λ (a : Answer). kept shots number a (number_text a.number)) (called ∙ ap (λ (x : Shot). (step x call).answer) here)
    ∙ ap (kept shots number (step (shot_of shots number) call).answer) (sym (told (step (shot_of shots number) call)))

-- Digits decoded into a run that has room for their bytes: these are the run's front.
module _ (digits : List ℕ) {run output : List ℕ} {end : ℕ} (wrote : Writes 0 (decoded digits) run end output) (fits : length digits / 2 ≤ length run) where
  pub decoded_within : end ≤ length output
  decoded_within = omega (arith, writes_room wrote 0 (omega (arith, wrote.ends, length_decoded digits)))

  pub decoded_length : end ≡ length (take end output)
  decoded_length = sym (length-take-le end output decoded_within)

  -- what a line brings is no more than an answer can hold
  pub decoded_short : length digits ≤ line_limit → length (take end output) ≤ byte_limit
  decoded_short few = omega (arith, ap length (writes_front wrote), length_decoded digits)
