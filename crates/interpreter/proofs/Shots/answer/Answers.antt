-- `interpreter::Shots::answer` meets its contract.
use Rattle.std.proofs.Common.{◌≡◌, Bool, List, ℕ, ◌≤◌, length, ap, subst, ◌∙◌, arith}
use Rattle.script.specs.Script.{line_limit, HasCall, IsCall}
use Rattle.script.specs.declared.Command.{Command}
use Rattle.words.specs.Words.{HasDigits, word_in}
use Rattle.words.specs.declared.Word.{Word}
use Rattle.script.proofs.Due.{calls_are_due, digits_short, pixel_size}
use Rattle.interpreter.proofs.Shots.answer.Goals as goal

-- what the line brings is as it is due
due : {line : List ℕ} {command given : Command} → HasCall line command → command ≡ given → IsCall line given
due {line} {command} has is = subst (IsCall line) is (calls_are_due.due line command has)

-- and no longer than a line
short : (is_due : List ℕ → Bool) (word : Word) {line bytes : List ℕ} {command : Command} → HasCall line command → HasDigits is_due line word
    → bytes ≡ word_in line word
    → length bytes ≤ line_limit
short is_due word has digits is = omega (arith, ap length is, digits_short is_due _ word digits, calls_are_due.short _ _ has)

pub bytes_in-requires : goal.bytes_in-requires
bytes_in-requires c = (due c.requires.has_call c.in-Measure.is).1.within

pub measure_shot-requires-clause-strip_len_bound : goal.measure_shot-requires-clause-strip_len_bound
measure_shot-requires-clause-strip_len_bound c =
    short _ _ c.requires.has_call (due c.requires.has_call c.in-Measure.is).1 c.bytes_in.ensures

pub bytes_in-requires-in-Colour : goal.bytes_in-requires-in-Colour
bytes_in-requires-in-Colour c = (due c.requires.has_call c.in-Colour.is).1.within

pub bytes_in-requires-in-Colour-2 : goal.bytes_in-requires-in-Colour-2
bytes_in-requires-in-Colour-2 c = (due c.requires.has_call c.in-Colour.is).2.within

pub colour_shot-requires-clause-source_len_bound : goal.colour_shot-requires-clause-source_len_bound
colour_shot-requires-clause-source_len_bound c =
    short _ _ c.requires.has_call (due c.requires.has_call c.in-Colour.is).1 c.bytes_in-in-Colour.ensures

pub colour_shot-requires-clause-destination_len_bound : goal.colour_shot-requires-clause-destination_len_bound
colour_shot-requires-clause-destination_len_bound c =
    short _ _ c.requires.has_call (due c.requires.has_call c.in-Colour.is).2 c.bytes_in-in-Colour-2.ensures

pub bytes_in-requires-in-Move : goal.bytes_in-requires-in-Move
bytes_in-requires-in-Move c = (due c.requires.has_call c.in-Move.is).within

pub move_pixel-requires-clause-pixel_len : goal.move_pixel-requires-clause-pixel_len
move_pixel-requires-clause-pixel_len c =
    ap length c.bytes_in-in-Move.ensures ∙ pixel_size _ _ (due c.requires.has_call c.in-Move.is)
