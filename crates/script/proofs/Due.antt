-- What a line that is read as a call brings is as it is due.
use mathlib.Core.Path.{◌≡◌, refl, ap, subst, ◌∙◌}
use mathlib.Core.Bool.{Bool, true, false}
use mathlib.Core.List.{List, ◌++◌}
use Prim.Native.Nat.{ℕ, ◌-◌, ◌≤◌}
use native.Mathlib.Omega.{arith}
use borrow.Author.Tests.{ltb-false, eqb-true}
use borrow.Table.Steps.{cases}
use lib.Dec.{ltb, eqb}
use lib.ListN.{length, take, drop, length-append, length-drop, take-append-drop}
use lib.Seq.{take-append-le, drop-append-le, length-take-le}
use Rattle.std.specs.Prelude.{Option, Some, None, Result, Ok, Err, ok_or, IfOk, IfSome}
use Rattle.std.proofs.lemmas.Result.{IfOk-weaker, IfOk-at_ok}
use Rattle.std.proofs.lemmas.Bool.{and_parts}
use Rattle.hexadecimal.specs.Hexadecimal.{is_pairs}
use Rattle.scanning.specs.Scanning.{in_class, run_length}
use Rattle.scanning.specs.declared.Class.TheVariants.{Uncommented}
use Rattle.words.specs.Words.{◌>>=◌, good_if, Within, word_at, word_in, word_due, is_shot, is_strip, is_pixel, number_at, shot_at, strip_at, pixel_at, end_at, HasDigits}
use Rattle.words.specs.declared.Fault.{Fault}
use Rattle.words.specs.declared.Word.{Word}
use Rattle.words.proofs.Places.{word_within}
use Rattle.dial_words.specs.DialWords.{dial_at}
use Rattle.script.specs.Script.{line_limit, open_at, measure_at, fix_at, colour_at, move_at, name_of, named_at, call_at, times_at, calls_at, calls_from, text_line, line_of, IsCall, HasCall, CallsAreDue}
use Rattle.script.specs.declared.Calls.{Calls as SomeCalls}
use Rattle.script.specs.declared.Command.{Command}
use Rattle.script.specs.declared.Command.TheVariants.{Open, Measure, Fix, Colour, Move}
use Rattle.script.specs.declared.Name.{Name}
use Rattle.script.specs.declared.Name.TheVariants.{Open as IsOpen, Measure as IsMeasure, Fix as IsFix, Colour as IsColour, Move as IsMove}

-- What is read after a step is due, if it is after each value of which P holds, as it does of the step's.
after : {A B : Type 0} (P : A → Type 0) (Q : B → Type 0) (step : Result A Fault) (next : A → Result B Fault) → IfOk step P
    → ((value : A) → P value → IfOk (next value) Q) → IfOk (step >>= next) Q
after P Q (Ok value) next holds due = due value holds
after P Q (Err fault) next holds due = tt

-- the same, if it is after every value
after_any : {A B : Type 0} (Q : B → Type 0) (step : Result A Fault) (next : A → Result B Fault) → ((value : A) → IfOk (next value) Q)
    → IfOk (step >>= next) Q
after_any Q (Ok value) next due = due value
after_any Q (Err fault) next due = tt

-- a test that was passed
after_test : {A : Type 0} (P : A → Type 0) (so : Bool) (fault : Fault) (value : A) → (so ≡ true → P value) → IfOk (good_if so fault value) P
after_test P true fault value due = due refl
after_test P false fault value due = tt

-- a value that was found
after_some : {A : Type 0} (P : A → Type 0) (found : Option A) (fault : Fault) → IfSome found P → IfOk (ok_or found fault) P
after_some P None fault holds = tt
after_some P (Some value) fault holds = holds

-- What follows a place.
module _ (line : List ℕ) (place : ℕ) where
  word_due_within : IfOk (word_due line place) (λ word. Within word line)
  unfolding word_due
  word_due_within = after_some _ (word_at line place) _ (word_within line place)

  shot_due : IfOk (shot_at line place) (λ shot. is_shot shot.value ≡ true)
  unfolding shot_at
  shot_due = after_any _ (number_at line place) _ (λ shot. after_test _ (is_shot shot.value) _ shot (λ good. good))

  -- a word that was looked at
  digits_due : (is_due : List ℕ → Bool) (fault : Fault)
      → IfOk (word_due line place >>= (λ word. good_if (is_due (word_in line word)) fault word)) (HasDigits is_due line)
  digits_due is_due fault =
      after _ _ (word_due line place) _ word_due_within
      (λ word within. after_test _ (is_due (word_in line word)) fault word (λ good. record { within = within; form = good }))

  strip_due : IfOk (strip_at line place) (HasDigits is_strip line)
  unfolding strip_at
  strip_due = digits_due is_strip _

  pixel_due : IfOk (pixel_at line place) (HasDigits is_pixel line)
  unfolding pixel_at
  pixel_due = digits_due is_pixel _

-- Each call, and what follows it.
module _ (line : List ℕ) (place : ℕ) where
  open_due : IfOk (open_at line place) (IsCall line)
  unfolding open_at
  open_due = after _ _ (shot_at line place) _ (shot_due line place) (λ shot isShot. after_any _ (end_at line shot.end) _ (λ left. isShot))

  measure_due : IfOk (measure_at line place) (IsCall line)
  unfolding measure_at
  measure_due =
      after _ _ (shot_at line place) _ (shot_due line place)
      (λ shot isShot.
      after _ _ (strip_at line shot.end) _ (strip_due line shot.end)
      (λ strip isStrip. after_any _ (end_at line strip.end) _ (λ left. (isShot, isStrip))))

  fix_due : IfOk (fix_at line place) (IsCall line)
  unfolding fix_at
  fix_due =
      after _ _ (shot_at line place) _ (shot_due line place)
      (λ shot isShot.
      after_any _ (number_at line shot.end) _
      (λ choice. after_any _ (end_at line choice.end) _ (λ left. isShot)))

  colour_due : IfOk (colour_at line place) (IsCall line)
  unfolding colour_at
  colour_due =
      after _ _ (shot_at line place) _ (shot_due line place)
      (λ shot isShot.
      after_any _ (number_at line shot.end) _
      (λ method.
      after_any _ (dial_at line method.end) _
      (λ dial.
      after _ _ (strip_at line dial.end) _ (strip_due line dial.end)
      (λ source isSource.
      after _ _ (strip_at line source.end) _ (strip_due line source.end)
      (λ destination isDestination. after_any _ (end_at line destination.end) _ (λ left. (isShot, isSource, isDestination)))))))

  move_due : IfOk (move_at line place) (IsCall line)
  unfolding move_at
  move_due =
      after_any _ (number_at line place) _
      (λ method.
      after _ _ (pixel_at line method.end) _ (pixel_due line method.end)
      (λ pixel isPixel.
      after_any _ (number_at line pixel.end) _
      (λ target. after_any _ (end_at line target.end) _ (λ left. isPixel))))

  named_due : (name : Name) → IfOk (named_at name line place) (IsCall line)
  named_due IsOpen = open_due
  named_due IsMeasure = measure_due
  named_due IsFix = fix_due
  named_due IsColour = colour_due
  named_due IsMove = move_due

-- the call that follows a place
call_due : (line : List ℕ) (place : ℕ) → IfOk (call_at line place) (IsCall line)
unfolding call_at
call_due line place =
    after_any _ (word_due line place) _
    (λ word. after_any _ (ok_or (name_of (word_in line word)) _) _ (λ name. named_due line word.end name))

-- what the first word begins
from_due : (line : List ℕ) (first : Option Word) → IfOk (calls_from line first) (λ read. IfSome read (λ calls. IsCall line calls.command))
unfolding calls_at
from_due line None = tt
from_due line (Some first) =
    after_any _ (times_at line first) _
    (λ times. after _ _ (call_at line times.end) _ (call_due line times.end) (λ command due. due))

-- a line without its comment
text_due : (line : List ℕ) → IfOk (text_line line) (λ read. IfSome read (λ calls. IsCall line calls.command))
unfolding text_line
text_due line = from_due line (word_at line 0)

-- A word of the front of a line is a word of the line.
module _ (front rest : List ℕ) where
  word_kept : (word : Word) → Within word front → word_in (front ++ rest) word ≡ word_in front word
  word_kept word within =
      ap (take (word.end - word.start)) (drop-append-le word.start front rest (omega (arith, within.order, within.ends)))
      ∙ take-append-le (word.end - word.start) (drop word.start front) rest (omega (arith, within.ends, length-drop word.start front))

  digits_kept : (is_due : List ℕ → Bool) (word : Word) → HasDigits is_due front word → HasDigits is_due (front ++ rest) word
  digits_kept is_due word has = record {
    within = record { order = has.within.order; ends = omega (arith, has.within.ends, length-append front rest) };
    form = ap is_due (word_kept word has.within) ∙ has.form;
  }

  call_kept : (command : Command) → IsCall front command → IsCall (front ++ rest) command
  call_kept (Open shot) is = is
  call_kept (Measure shot strip) (is, has) = (is, digits_kept is_strip strip has)
  call_kept (Fix shot choice) is = is
  call_kept (Colour shot method dial source destination) (is, from, to) = (is, digits_kept is_strip source from, digits_kept is_strip destination to)
  call_kept (Move method pixel target) has = digits_kept is_pixel pixel has

-- a line that is read as a call is not too long
line_due : (line : List ℕ) → IfOk (line_of line) (λ read. (length line ≤ line_limit) × IfSome read (λ calls. IsCall line calls.command))
unfolding line_of
line_due line =
    let n = run_length (in_class Uncommented) line in
    cases (ltb line_limit (length line))
    (λ long. rw long tt)
    (λ short.
    rw short
    (IfOk-weaker (text_line (take n line)) _ _
    (λ read due. (ltb-false line_limit (length line) short, kept n read due))
    (text_due (take n line))))
  where
    kept : (n : ℕ) (read : Option SomeCalls) → IfSome read (λ calls. IsCall (take n line) calls.command) → IfSome read (λ calls. IsCall line calls.command)
    kept n None due = tt
    kept n (Some calls) due =
        subst (λ (l : List ℕ). IsCall l calls.command) (take-append-drop n line) (call_kept (take n line) (drop n line) calls.command due)

module _ (line : List ℕ) (command : Command) (has : HasCall line command) where
  call_due_and_short : (length line ≤ line_limit) × IsCall line command
  call_due_and_short = IfOk-at_ok (λ read. (length line ≤ line_limit) × IfSome read (λ calls. IsCall line calls.command)) has.reads (line_due line)

pub calls_are_due : CallsAreDue
calls_are_due = record {
  short = λ line command has. (call_due_and_short line command has).0;
  due = λ line command has. (call_due_and_short line command has).1;
}

-- For callers: a line that is read as calls has their command.
pub has_call : {line : List ℕ} {calls : SomeCalls} → line_of line ≡ Ok (Some calls) → HasCall line calls.command
has_call {line} {calls} reads = record { times = calls.times; reads = reads }

-- For callers: how long the words are.
module _ (is_due : List ℕ → Bool) (line : List ℕ) (word : Word) (has : HasDigits is_due line word) where
  pub digits_short : length (word_in line word) ≤ length line
  digits_short =
      omega (
        arith,
        length-take-le (word.end - word.start) (drop word.start line)
            (omega (arith, has.within.ends, length-drop word.start line)),
        has.within.ends,
      )

pub pixel_size : (line : List ℕ) (word : Word) → HasDigits is_pixel line word → length (word_in line word) ≡ 6
pixel_size line word has =
    let text = word_in line word in
    eqb-true (length text) 6 (and_parts (eqb (length text) 6) (is_pairs text) has.form).0
