-- Scripts: the examples, by computing, and laws of repeated commands.
use mathlib.Core.Path.{◌≡◌, refl}
use mathlib.Core.List.{List}
use Prim.Native.Nat.{ℕ, zero, suc, ◌+◌, ◌-◌, ◌≤◌, ◌<◌}
use native.Mathlib.Omega.{arith}
use Rattle.text.specs.Decimal.{value_after, decimal_within, decimal}
use Rattle.scanning.specs.Scanning.{run_length, same_bytes}
use Rattle.hexadecimal.specs.Hexadecimal.{digit_value, decoded, encoded}
use Rattle.words.specs.Words.{word_at, word_due, number_of, number_at, shot_at, strip_at, pixel_at, end_at}
use Rattle.dial_words.specs.DialWords.{float_of, float_at, command_of, dial_at}
use Rattle.script.specs.Script.{open_at, measure_at, fix_at, colour_at, move_at, name_of, call_at, times_at, calls_at, text_line, line_of}
use Rattle.script.specs.declared.Command.{Command}
use Rattle.answers.specs.Answers.{fault_text}
use Rattle.pixel.specs.MoveOne.{moved_one}
use Rattle.shot.specs.Shot.{opened, measured, fixed_with, coloured}
use Rattle.interpreter.specs.Interpreter.{answer_to}
use Rattle.interpreter.specs.Scripts.{lines_after, replies_to, answers_from, examples, ExamplesHold}
use Rattle.interpreter.specs.declared.Shots.{Shots}

pub examples_hold : ExamplesHold
unfolding examples lines_after replies_to answers_from value_after decimal_within decimal run_length same_bytes digit_value decoded encoded word_at word_due number_of number_at shot_at strip_at pixel_at end_at float_of float_at command_of dial_at open_at measure_at fix_at colour_at move_at name_of call_at times_at calls_at text_line line_of fault_text moved_one opened measured fixed_with coloured
examples_hold = refl

module _ (line : List ℕ) (command : Command) (shots : Shots) where
  -- of the times that are left, one
  pub replies_more : (times done : ℕ) → done < times
      → (replies_to (times - done) line command shots).shots ≡ (replies_to (times - (done + 1)) line command (answer_to line shots command).shots).shots
  unfolding replies_to
  replies_more times done some = let left : times - done ≡ suc (times - (done + 1)) = omega arith in rw left refl

  -- none is left
  pub replies_none : (left : ℕ) → left ≤ 0 → shots ≡ (replies_to left line command shots).shots
  unfolding replies_to
  replies_none zero none = refl
  replies_none (suc left) none = absurd (omega arith)
