-- The examples, by computing.
use mathlib.Core.Path.{refl}
use lib.Ieee.{of_bits}
use Rattle.text.specs.Decimal.{value_after}
use Rattle.scanning.specs.Scanning.{run_length, same_bytes}
use Rattle.hexadecimal.specs.Hexadecimal.{digit_value, decoded}
use Rattle.words.specs.Words.{word_at, word_due, number_of, number_at, shot_at, strip_at, pixel_at, end_at}
use Rattle.dial_words.specs.DialWords.{float_of, float_at, command_of, dial_at}
use Rattle.script.specs.Script.{open_at, measure_at, fix_at, colour_at, move_at, name_of, call_at, times_at, calls_at, text_line, line_of}
use Rattle.script.specs.Examples.{examples, ExamplesHold}

pub examples_hold : ExamplesHold
unfolding examples of_bits value_after run_length same_bytes digit_value decoded word_at word_due number_of number_at shot_at strip_at pixel_at end_at float_of float_at command_of dial_at open_at measure_at fix_at colour_at move_at name_of call_at times_at calls_at text_line line_of
examples_hold = refl
