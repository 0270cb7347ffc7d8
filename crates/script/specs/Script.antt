-- What a line of a script is read as.
use Rattle.std.specs.Prelude.{◌≡◌, true, cond, List, [], ◌∷◌, ℕ, ◌≤◌, ltb, length, take, Option, Some, None, Result, Ok, Err, ok_or}
use Prim.Native.String.{String}
use Rattle.text.specs.Text.{ascii}
use Rattle.scanning.specs.Scanning.{in_class, run_length, same_bytes}
use Rattle.scanning.specs.declared.Class.TheVariants.{Uncommented}
use Rattle.words.specs.Words.{◌>>=◌, ◌>>◌, word_at, word_in, word_due, is_shot, is_strip, is_pixel, number_at, shot_at, strip_at, pixel_at, end_at, HasDigits}
use Rattle.words.specs.declared.Fault.{Fault}
use Rattle.words.specs.declared.Fault.TheVariants.{TooLong, NoSuchCall}
use Rattle.words.specs.declared.Found.{Found}
use Rattle.words.specs.declared.Word.{Word}
use Rattle.dial_words.specs.DialWords.{dial_at}
use Rattle.script.specs.declared.Calls.{Calls as SomeCalls}
use Rattle.script.specs.declared.Command.{Command}
use Rattle.script.specs.declared.Command.TheVariants.{Open, Measure, Fix, Colour, Move}
use Rattle.script.specs.declared.Name.{Name}
use Rattle.script.specs.declared.Name.TheVariants.{Open as IsOpen, Measure as IsMeasure, Fix as IsFix, Colour as IsColour, Move as IsMove}

-- A line has at most so many bytes, its line feed not counted.
abbrev pub line_limit : ℕ
line_limit = 65536

-- What a line is read as.
abbrev pub ScriptLine : Type 0
ScriptLine = Result (Option SomeCalls) Fault

-- White space, or a comment, and nothing else.
abbrev pub Blank : ScriptLine
Blank = Ok None

-- So many calls, all the same.
abbrev pub Calls : ℕ → Command → ScriptLine
Calls times command = Ok (Some (record { times = times; command = command }))

-- A line at fault.
abbrev pub NoCall : Fault → ScriptLine
NoCall fault = Err fault

-- open SHOT
unfoldable pub open_at : List ℕ → ℕ → Result Command Fault
open_at line place = do
  shot ← shot_at line place
  end_at line shot.end
  Ok (Open shot.value)

-- measure SHOT STRIP
unfoldable pub measure_at : List ℕ → ℕ → Result Command Fault
measure_at line place = do
  shot ← shot_at line place
  strip ← strip_at line shot.end
  end_at line strip.end
  Ok (Measure shot.value strip)

-- fix SHOT CHOICE
unfoldable pub fix_at : List ℕ → ℕ → Result Command Fault
fix_at line place = do
  shot ← shot_at line place
  choice ← number_at line shot.end
  end_at line choice.end
  Ok (Fix shot.value choice.value)

-- colour SHOT METHOD DIAL SOURCE DESTINATION
unfoldable pub colour_at : List ℕ → ℕ → Result Command Fault
colour_at line place = do
  shot ← shot_at line place
  method ← number_at line shot.end
  dial ← dial_at line method.end
  source ← strip_at line dial.end
  destination ← strip_at line source.end
  end_at line destination.end
  Ok (Colour shot.value method.value dial.value source destination)

-- move METHOD PIXEL TARGET
unfoldable pub move_at : List ℕ → ℕ → Result Command Fault
move_at line place = do
  method ← number_at line place
  pixel ← pixel_at line method.end
  target ← number_at line pixel.end
  end_at line target.end
  Ok (Move method.value pixel target.value)

-- A word, and the call that it names.
pub record Naming : Type 0 where
  pub word : List ℕ
  pub name : Name

infix 68 ◌means◌
abbrev pub ◌means◌ : String → Name → Naming
text means name = record { word = ascii text; name = name }

-- The names of the calls.
abbrev pub call_names : List Naming
call_names = "open" means IsOpen ∷ "measure" means IsMeasure ∷ "fix" means IsFix ∷ "colour" means IsColour ∷ "move" means IsMove ∷ []

-- The call that a word names, among these, if any.
abbrev pub name_among : List Naming → List ℕ → Option Name
name_among [] word = None
name_among (naming ∷ namings) word = cond (same_bytes word naming.word) (Some naming.name) (name_among namings word)

-- The call that a word names.
unfoldable pub name_of : List ℕ → Option Name
name_of word = name_among call_names word

-- What follows the name of a call.
abbrev pub named_at : Name → List ℕ → ℕ → Result Command Fault
named_at IsOpen line place = open_at line place
named_at IsMeasure line place = measure_at line place
named_at IsFix line place = fix_at line place
named_at IsColour line place = colour_at line place
named_at IsMove line place = move_at line place

-- CALL: the call that follows a place.
unfoldable pub call_at : List ℕ → ℕ → Result Command Fault
call_at line place = do
  word ← word_due line place
  name ← ok_or (name_of (word_in line word)) NoSuchCall
  named_at name line word.end

-- How often the call of a line is made, and where it stands: after `repeat` and a number as often as that says, else once.
unfoldable pub times_at : List ℕ → Word → Result (Found ℕ) Fault
times_at line first =
    cond (same_bytes (word_in line first) (ascii "repeat")) (number_at line first.end) (Ok (record { value = 1; end = 0 }))

-- A call, and how often it is made. The number of times is looked at first.
unfoldable pub calls_at : List ℕ → Word → ScriptLine
calls_at line first = do
  times ← times_at line first
  command ← call_at line times.end
  Calls times.value command

-- What the first word of a line begins: nothing where there is none, else a call, before which `repeat` and a number may stand.
abbrev pub calls_from : List ℕ → Option Word → ScriptLine
calls_from line None = Blank
calls_from line (Some first) = calls_at line first

-- What a line without its comment is read as.
unfoldable pub text_line : List ℕ → ScriptLine
text_line line = calls_from line (word_at line 0)

-- What a line is read as. A comment begins with # and reaches to the end of the line.
unfoldable pub line_of : List ℕ → ScriptLine
line_of line = cond (ltb line_limit (length line)) (NoCall TooLong) (text_line (take (run_length (in_class Uncommented) line) line))

-- What a call brings is as it is due.
abbrev pub IsCall : List ℕ → Command → Type 0
IsCall line (Open shot) = is_shot shot ≡ true
IsCall line (Measure shot strip) = (is_shot shot ≡ true) × HasDigits is_strip line strip
IsCall line (Fix shot choice) = is_shot shot ≡ true
IsCall line (Colour shot method dial source destination) =
    (is_shot shot ≡ true) × HasDigits is_strip line source × HasDigits is_strip line destination
IsCall line (Move method pixel target) = HasDigits is_pixel line pixel

-- A line is read as this call, so many times.
pub record HasCall (line : List ℕ) (command : Command) : Type 0 where
  pub times : ℕ
  pub reads : line_of line ≡ Calls times command

-- Claim: a line that is read as a call is not too long, and brings what is due. Proved: proofs/Due.antt, `calls_are_due`.
pub record CallsAreDue : Type 0 where
  pub short : (line : List ℕ) (command : Command) → HasCall line command → length line ≤ line_limit
  pub due : (line : List ℕ) (command : Command) → HasCall line command → IsCall line command
