-- The words that the filters `measure` and `colour` are given: their arguments, put together to one line. A word that may be left out stands
-- for the customer's own way with a picture: the cube's curve, method 2 and the full balance.
use Rattle.std.specs.Prelude.{cond, List, [], ◌∷◌, ◌++◌, ℕ, Option, Some, None, is_some, Result, Ok, ok_or}
use Rattle.text.specs.Text.{ascii}
use Rattle.settings.specs.Setting.{full}
use Rattle.settings.specs.declared.Setting.{Setting}
use Rattle.settings.specs.declared.Setting.TheVariants.{Off, Mix, Hold}
use Rattle.words.specs.Words.{◌>>=◌, ◌>>◌, word_at, word_in, number_at, end_at}
use Rattle.words.specs.declared.Found.{Found}
use Rattle.words.specs.declared.Word.{Word}
use Rattle.words.specs.declared.Fault.{Fault}
use Rattle.words.specs.declared.Fault.TheVariants.{NoSuchDial}
use Rattle.dial_words.specs.DialWords.{command_of}
use Rattle.dial_words.specs.declared.DialCommand.{DialCommand}
use Rattle.dial_words.specs.declared.DialCommand.TheVariants.{Off as IsOff, Mix as IsMix, Hold as IsHold}
use Rattle.filter_words.specs.declared.Job.{Job}

-- Words put together to a line, each with a space after it.
abbrev pub spaced : List (List ℕ) → List ℕ
spaced [] = []
spaced (word ∷ words) = word ++ (ascii " " ++ spaced words)

-- A number that may be left out, and then is this one.
abbrev pub number_or : ℕ → List ℕ → Option Word → Result (Found ℕ) Fault
number_or default line None = Ok (record { value = default; end = 0 })
number_or default line (Some word) = number_at line 0

-- [CHOICE]: the curve choice, 1 where it is left out.
unfoldable pub choice_in : List ℕ → Result ℕ Fault
choice_in line = do
  choice ← number_or 1 line (word_at line 0)
  end_at line choice.end >> Ok choice.value

-- [METHOD]: 2 where it is left out, so that the line ends or a command of the dial stands in its place.
abbrev pub method_or : List ℕ → Option Word → Result (Found ℕ) Fault
method_or line None = Ok (record { value = 2; end = 0 })
method_or line (Some word) = cond (is_some (command_of (word_in line word))) (Ok (record { value = 2; end = 0 })) (number_at line 0)

-- What follows the word of a command: nothing, the stop of 256, or the intensity.
abbrev pub setting_by : DialCommand → List ℕ → ℕ → Result (Found Setting) Fault
setting_by IsOff line place = Ok (record { value = Off; end = place })
setting_by IsMix line place = do
  k ← number_at line place
  Ok (record { value = Mix k.value; end = k.end })
setting_by IsHold line place = do
  v ← number_at line place
  Ok (record { value = Hold v.value; end = v.end })

-- [off | mix K | hold V]: the full balance where it is left out.
abbrev pub setting_or : List ℕ → ℕ → Option Word → Result (Found Setting) Fault
setting_or line place None = Ok (record { value = full; end = place })
setting_or line place (Some word) = do
  command ← ok_or (command_of (word_in line word)) NoSuchDial
  setting_by command line word.end

-- [METHOD] [off | mix K | hold V].
unfoldable pub job_in : List ℕ → Result Job Fault
job_in line = do
  method ← method_or line (word_at line 0)
  setting ← setting_or line method.end (word_at line method.end)
  end_at line setting.end >> Ok (record { method = method.value; setting = setting.value })
