-- The call that a word names, by the bytes of the word.
use mathlib.Core.Path.{◌≡◌}
use mathlib.Core.Bool.{cond}
use mathlib.Core.List.{List, [], ◌∷◌}
use Prim.Native.Nat.{ℕ}
use Rattle.std.specs.Prelude.{Option, Some, None}
use Rattle.words.proofs.Texts.{same_by_bytes, same_is_by_bytes}
use Rattle.script.specs.Script.{Naming, call_names, name_of}
use Rattle.script.specs.declared.Name.{Name}

-- the name among these, where each word is looked at byte by byte
abbrev pub name_by_bytes : List Naming → List ℕ → Option Name
name_by_bytes [] word = None
name_by_bytes (naming ∷ namings) word = cond (same_by_bytes word naming.word) (Some naming.name) (name_by_bytes namings word)

pub name_read : (word : List ℕ) → name_of word ≡ name_by_bytes call_names word
unfolding name_of
name_read word = simp same_is_by_bytes
