-- The command that a word names, by the bytes of the word.
use mathlib.Core.Path.{◌≡◌}
use mathlib.Core.Bool.{cond}
use mathlib.Core.List.{List}
use Prim.Native.Nat.{ℕ}
use Rattle.std.specs.Prelude.{Some, None}
use Rattle.text.specs.Text.{ascii}
use Rattle.words.proofs.Texts.{same_by_bytes, same_is_by_bytes}
use Rattle.dial_words.specs.DialWords.{command_of}
use Rattle.dial_words.specs.declared.DialCommand.TheVariants.{Off, Mix, Hold}

pub command_read : (word : List ℕ)
    → command_of word
    ≡ cond (same_by_bytes word (ascii "off")) (Some Off)
    (cond (same_by_bytes word (ascii "mix")) (Some Mix) (cond (same_by_bytes word (ascii "hold")) (Some Hold) None))
unfolding command_of
command_read word = simp same_is_by_bytes
