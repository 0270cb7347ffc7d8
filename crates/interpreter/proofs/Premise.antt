-- The shots of a script, by their numbers.
use mathlib.Core.Path.{sym, subst}
use mathlib.Core.List.{List, [], ◌∷◌}
use Prim.Native.Nat.{ℕ, zero, suc}
use borrow.Table.Steps.{cases}
use lib.Dec.{eqb}
use lib.ListN.{get_or, set}
use Rattle.hexadecimal.proofs.Hexadecimal.{decoded_small}
use Rattle.words.specs.Words.{word_in}
use Rattle.script.specs.declared.Command.{Command}
use Rattle.script.specs.declared.Command.TheVariants.{Open, Measure, Fix, Colour, Move}
use Rattle.shot.specs.Reachable.{Reachable, Reachable.by_opening}
use Rattle.shot.specs.Shot.{opened}
use Rattle.shot.specs.declared.Shot.{Shot}
use Rattle.book.specs.Run.{WellFormed}
use Rattle.book.proofs.Accuracy.{reachable_step}
use Rattle.interpreter.specs.Interpreter.{new_shots, place_of, with_shot, AllReachable, Request, Request.calling, Request.moving, request_in, reply_to, answer_to, LeavesReply, RepliesKeepPremise}
use Rattle.interpreter.specs.declared.Shots.{Shots}

-- what holds of the four places holds of every number's
pub by_place : (number : ℕ) (P : ℕ → Type 0) → P 0 → P 1 → P 2 → P 3 → P (place_of number)
by_place number P first second third fourth =
    cases (eqb number 1)
    (λ e. rw e first)
    (λ e. rw e (cases (eqb number 2) (λ e. rw e second) (λ e. rw e (cases (eqb number 3) (λ e. rw e third) (λ e. rw e fourth)))))

-- what holds of an element, and of what is put in its place, holds of the element of the list that this makes
set_holds : {A : Type 0} (P : A → Type 0) (l : List A) (i j : ℕ) {x : A} (d : A) → P x → P (get_or l j d) → P (get_or (set l i x) j d)
set_holds P [] i j d put was = was
set_holds P (y ∷ l) zero zero d put was = put
set_holds P (y ∷ l) zero (suc j) d put was = was
set_holds P (y ∷ l) (suc i) zero d put was = was
set_holds P (y ∷ l) (suc i) (suc j) d put was = set_holds P l i j d put was

-- with a shot that came from the calls in the place of a number, all did
kept_reachable : {shots : Shots} → AllReachable shots → (number : ℕ) → {shot : Shot} → Reachable shot → AllReachable (with_shot shots number shot)
kept_reachable {shots} all number put =
    record { each = λ other. set_holds Reachable shots.all (place_of number) (place_of other) opened put (all.each other) }

-- what is asked for brings bytes
abbrev pub BringsBytes : Request → Type 0
BringsBytes (calling shot call) = WellFormed call
BringsBytes (moving method pixel target) = Unit {0}

pub brings_bytes : (line : List ℕ) (command : Command) → BringsBytes (request_in line command)
brings_bytes line (Open shot) = tt
brings_bytes line (Measure shot strip) = decoded_small (word_in line strip)
brings_bytes line (Fix shot choice) = tt
brings_bytes line (Colour shot method dial source destination) = decoded_small (word_in line source)
brings_bytes line (Move method pixel target) = tt

reply_reachable : (shots : Shots) (request : Request) → BringsBytes request → AllReachable shots → AllReachable (reply_to shots request).shots
reply_reachable shots (calling shot call) brings all = kept_reachable all shot (reachable_step (all.each shot) call brings)
reply_reachable shots (moving method pixel target) brings all = all

pub replies_keep_premise : RepliesKeepPremise
replies_keep_premise line shots command all = reply_reachable shots (request_in line command) (brings_bytes line command) all

-- newly opened shots came from the calls (cited by nothing, as the next; docs/PORT.md names both)
pub new_reachable : AllReachable new_shots
new_reachable = record { each = λ number. by_place number (λ (place : ℕ). Reachable (get_or new_shots.all place opened)) by_opening by_opening by_opening by_opening }

-- For callers: so do the shots that an answer leaves.
pub answered_reachable : (line : List ℕ) (command : Command) {before after : List ℕ} {shots left : Shots} {size : ℕ}
    → AllReachable shots
    → LeavesReply (answer_to line shots command) before left size after
    → AllReachable left
answered_reachable line command {shots = shots} all leaves =
    subst AllReachable (sym leaves.shots) (replies_keep_premise line shots command all)
