-- The shots of a script, and the lists of their own.
use mathlib.Core.Path.{◌≡◌, refl, sym, ap, subst, ◌∙◌}
use mathlib.Core.Bool.{true, cond}
use mathlib.Core.List.Memᴰ
use mathlib.Core.List.{List, [], ◌∷◌, ◌++◌, map}
use mathlib.Core.Logic.{⊎_elim}
use Prim.Native.Nat.{ℕ, zero, suc, ◌+◌, ◌-◌, ◌≤◌, ◌<◌}
use native.Mathlib.Omega.{arith}
use borrow.Author.Tests.{leb-true, eqb-true}
use Rattle.std.proofs.lemmas.Bool.{eqb-false}
use Rattle.std.proofs.lemmas.Grind.{get_or-set_at}
use Rattle.std.proofs.lemmas.List.{get_or-set_other}
use borrow.Table.Steps.{cases}
use lib.Dec.{leb, eqb}
use lib.ListN.{length, get_or, set, length-set}
use Rattle.tables.specs.Table.{◌among◌}
use Rattle.std.proofs.lemmas.Bool.{and_parts}
use Rattle.words.specs.Words.{is_shot}
use Rattle.script.specs.Script.{IsCall, HasCall}
use Rattle.script.specs.declared.Command.{Command}
use Rattle.script.specs.declared.Command.TheVariants.{Open, Measure, Fix, Colour, Move}
use Rattle.script.proofs.Due.{calls_are_due}
use Rattle.shot.specs.Shot.{opened}
use Rattle.shot.specs.declared.Shot.{Shot}
use Rattle.book.specs.Book.{Call, Book, empty_book}
use Rattle.book.specs.Run.{step, trace_from, WellFormed}
use Rattle.book.proofs.Accuracy.{accuracy}
use Rattle.interpreter.specs.Interpreter.{place_of, new_shots, shot_of, with_shot, Request, Request.calling, Request.moving, request_in, call_text, on_shot, reply_to}
use Rattle.interpreter.specs.Lists.{ScriptCall, shots_after, if_on, calls_on, answers_on, shot_after, step_text, ListsRunSideBySide}
use Rattle.interpreter.specs.declared.Shots.{Shots}
use Rattle.interpreter.proofs.Premise.{by_place, BringsBytes, brings_bytes}

-- what holds of 1 to 4 holds of every shot's number
by_shot : (P : ℕ → Type 0) → P 1 → P 2 → P 3 → P 4 → (n : ℕ) → is_shot n ≡ true → P n
by_shot P one two three four n is =
    let (low, high) = and_parts (leb 1 n) (leb n 4) is in
    go (n - 1) (omega (arith, leb-true 1 n low)) (leb-true n 4 high)
  where
    go : (k : ℕ) → n ≡ 1 + k → n ≤ 4 → P n
    go zero e h = subst P (sym e) one
    go (suc zero) e h = subst P (sym e) two
    go (suc (suc zero)) e h = subst P (sym e) three
    go (suc (suc (suc zero))) e h = subst P (sym e) four
    go (suc (suc (suc (suc k)))) e h = absurd (omega arith)

-- the elements of a list after one is put in a place
get_or_set : {A : Type 0} (l : List A) (i j : ℕ) (x d : A) → i < length l → get_or (set l i x) j d ≡ cond (eqb i j) x (get_or l j d)
get_or_set l i j x d there =
    cases (eqb i j)
    (λ same. rw same (get_or-set_at l i j x d (sym (eqb-true i j same)) there))
    (λ other. rw other (get_or-set_other l i j x d (λ e. eqb-false i j other (sym e))))

-- shots with different numbers have different places
places_apart : (shot number : ℕ) → is_shot shot ≡ true → is_shot number ≡ true → eqb (place_of shot) (place_of number) ≡ eqb shot number
places_apart shot number is there =
    by_shot (λ s. eqb (place_of s) (place_of number) ≡ eqb s number)
    (by_shot (λ n. eqb (place_of 1) (place_of n) ≡ eqb 1 n) refl refl refl refl number there)
    (by_shot (λ n. eqb (place_of 2) (place_of n) ≡ eqb 2 n) refl refl refl refl number there)
    (by_shot (λ n. eqb (place_of 3) (place_of n) ≡ eqb 3 n) refl refl refl refl number there)
    (by_shot (λ n. eqb (place_of 4) (place_of n) ≡ eqb 4 n) refl refl refl refl number there)
    shot
    is

-- a script has four shots
abbrev AreFour : Shots → Type 0
AreFour shots = length shots.all ≡ 4

four_stay : (shots : Shots) (request : Request) → AreFour shots → AreFour (reply_to shots request).shots
four_stay shots (calling shot call) four = length-set shots.all (place_of shot) _ ∙ four
four_stay shots (moving method pixel target) four = four

-- a shot put in the place of its number stands there, and the others stay
placed : (shots : Shots) → AreFour shots → (x : Shot) (shot number : ℕ) → is_shot shot ≡ true → is_shot number ≡ true
    → shot_of (with_shot shots shot x) number ≡ cond (eqb shot number) x (shot_of shots number)
placed shots four x shot number is there =
    get_or_set shots.all (place_of shot) (place_of number) x opened
    (omega (arith, by_place shot (λ place. place < 4) (omega arith) (omega arith) (omega arith) (omega arith)))
    ∙ ap (λ t. cond t x (shot_of shots number)) (places_apart shot number is there)

-- a request names a shot that there is
abbrev NamesShot : Request → Type 0
NamesShot (calling shot call) = is_shot shot ≡ true
NamesShot (moving method pixel target) = Unit {0}

names_shot : (line : List ℕ) (command : Command) → IsCall line command → NamesShot (request_in line command)
names_shot line (Open shot) is = is
names_shot line (Measure shot strip) (is, has) = is
names_shot line (Fix shot choice) is = is
names_shot line (Colour shot method dial source destination) (is, from, to) = is
names_shot line (Move method pixel target) has = tt

-- A list of calls, with what is told of its steps.
abbrev texts : Shot → List Call → List (List ℕ)
texts x [] = []
texts x (call ∷ calls) = call_text call (step x call) ∷ texts (step x call).answer.shot calls

texts_of_trace : (calls : List Call) (n : ℕ) (x : Shot) (b : Book) → texts x calls ≡ map step_text (trace_from n x b calls)
texts_of_trace [] n x b = refl
texts_of_trace (call ∷ calls) n x b = ap (λ (ts : List (List ℕ)). call_text call (step x call) ∷ ts) (texts_of_trace calls _ _ _)

-- One request, for the shot with a number: the shot after it, and what is told.
module _ (number : ℕ) (there : is_shot number ≡ true) (shots : Shots) (four : AreFour shots) where
  call_shot : (shot : ℕ) (call : Call) → is_shot shot ≡ true
      → shot_of (on_shot shots shot call).shots number ≡ cond (eqb shot number) (step (shot_of shots number) call).answer.shot (shot_of shots number)
  call_shot shot call is =
      placed shots four (step (shot_of shots shot) call).answer.shot shot number is there
      ∙ cases (eqb shot number)
      (λ same. rw same (ap (λ (s : ℕ). (step (shot_of shots s) call).answer.shot) (eqb-true shot number same)))
      (λ other. rw other refl)

  -- the shot after a request and more calls
  shot_on : (request : Request) → NamesShot request → (more : List Call)
      → shot_after (shot_of (reply_to shots request).shots number) more
      ≡ shot_after (shot_of shots number) (if_on number request (λ call. call) ++ more)
  shot_on (calling shot call) is more =
      ap (λ (x : Shot). shot_after x more) (call_shot shot call is)
      ∙ cases (eqb shot number) (λ same. rw same refl) (λ other. rw other refl)
  shot_on (moving method pixel target) is more = refl

  -- what is told of a request and of more calls
  texts_on : (request : Request) → NamesShot request → (more : List Call)
      → if_on number request (λ call. (reply_to shots request).text) ++ texts (shot_of (reply_to shots request).shots number) more
      ≡ texts (shot_of shots number) (if_on number request (λ call. call) ++ more)
  texts_on (calling shot call) is more =
      ap (λ (x : Shot). if_on number (calling shot call) (λ c. (on_shot shots shot call).text) ++ texts x more) (call_shot shot call is)
      ∙ cases (eqb shot number)
      (λ same. rw same (ap (λ (s : ℕ). call_text call (step (shot_of shots s) call) ∷ texts (step (shot_of shots number) call).answer.shot more) (eqb-true shot number same)))
      (λ other. rw other refl)
  texts_on (moving method pixel target) is more = refl

-- Every line of the calls is read as its command.
abbrev Read : List ScriptCall → Type 0
Read calls = (c : ScriptCall) → c among calls → HasCall c.line c.command

module _ (number : ℕ) (there : is_shot number ≡ true) where
  names : (c : ScriptCall) → HasCall c.line c.command → NamesShot (request_in c.line c.command)
  names c has = names_shot c.line c.command (calls_are_due.due c.line c.command has)

  shots_follow : (calls : List ScriptCall) → Read calls → (shots : Shots) → AreFour shots
      → shot_of (shots_after shots calls) number ≡ shot_after (shot_of shots number) (calls_on number calls)
  shots_follow [] read shots four = refl
  shots_follow (c ∷ calls) read shots four =
      let request = request_in c.line c.command in
      shots_follow calls (λ d m. read d (Memᴰ.tail m)) (reply_to shots request).shots (four_stay shots request four)
      ∙ shot_on number there shots four request (names c (read c (Memᴰ.head refl))) (calls_on number calls)

  answers_follow : (calls : List ScriptCall) → Read calls → (shots : Shots) → AreFour shots
      → answers_on number shots calls ≡ texts (shot_of shots number) (calls_on number calls)
  answers_follow [] read shots four = refl
  answers_follow (c ∷ calls) read shots four =
      let request = request_in c.line c.command in
      let reply = reply_to shots request in
      ap (λ (rest : List (List ℕ)). if_on number request (λ call. reply.text) ++ rest)
      (answers_follow calls (λ d m. read d (Memᴰ.tail m)) reply.shots (four_stay shots request four))
      ∙ texts_on number there shots four request (names c (read c (Memᴰ.head refl))) (calls_on number calls)

  new_shot : shot_of new_shots number ≡ opened
  new_shot = by_shot (λ n. shot_of new_shots n ≡ opened) refl refl refl refl number there

-- every call of a shot's list brings bytes
request_brings : (number : ℕ) (request : Request) → BringsBytes request → (call : Call) → call among if_on number request (λ c. c)
    → WellFormed call
request_brings number (calling shot own) brings call member =
    cases (eqb shot number)
    (λ same. subst WellFormed (sym (Memᴰ.eq_of_singleton (rw same at member))) brings)
    (λ other. absurd (Memᴰ.not-nil (rw other at member)))
request_brings number (moving method pixel target) brings call member = absurd (Memᴰ.not-nil member)

well_formed_lem : (number : ℕ) (calls : List ScriptCall) (call : Call) → call among calls_on number calls → WellFormed call
well_formed_lem number [] call member = absurd (Memᴰ.not-nil member)
well_formed_lem number (c ∷ calls) call member =
    let request = request_in c.line c.command in
    ⊎_elim
    (request_brings number request (brings_bytes c.line c.command) call)
    (well_formed_lem number calls call)
    (Memᴰ.append_cases (if_on number request (λ d. d)) member)

pub lists_run_side_by_side : ListsRunSideBySide
lists_run_side_by_side = record {
  shots = λ calls read number there.
      shots_follow number there calls read new_shots refl
      ∙ ap (λ (x : Shot). shot_after x (calls_on number calls)) (new_shot number there);
  answers = λ calls read number there.
      answers_follow number there calls read new_shots refl
      ∙ ap (λ (x : Shot). texts x (calls_on number calls)) (new_shot number there)
      ∙ texts_of_trace (calls_on number calls) 0 opened empty_book;
  accurate = λ calls number. accuracy (calls_on number calls) (well_formed_lem number calls);
}
