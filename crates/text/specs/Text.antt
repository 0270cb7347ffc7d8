-- Text in a lent run of bytes.
use Rattle.std.specs.Prelude.{◌≡◌, List, [], ◌∷◌, ◌++◌, ℕ, ◌+◌, length, take, drop}
use Rattle.text.specs.declared.Writer.{Writer}
use Prim.Native.Char.{code}
use Prim.Native.String.{String, [] as []ˢ, ◌∷◌ as ◌∷ˢ◌}

-- The bytes of a text in ASCII.
abbrev pub ascii : String → List ℕ
ascii []ˢ = []
ascii (c ∷ˢ text) = code c ∷ ascii text

-- What the run holds once the text is written at the place: before and after the text, what it held.
abbrev pub written_at : ℕ → List ℕ → List ℕ → List ℕ
written_at place text run = take place run ++ text ++ drop (place + length text) run

-- What a function that writes text promises: the run then holds the text at the place, and the place after the text is handed back.
pub record Writes (place : ℕ) (text before : List ℕ) (end : ℕ) (after : List ℕ) : Type 0 where
  pub ends : end ≡ place + length text
  pub holds : after ≡ written_at place text before

-- What a function that writes text through a writer promises: this of the writer's run and place, and the run stays the one that was
-- lent, as long as before.
pub record Wrote (text : List ℕ) (before after : Writer) : Type 0 where
  pub same_run : after.run.ghost_name ≡ before.run.ghost_name
  pub same_length : length after.run.now ≡ length before.run.now
  pub writes : Writes before.end text before.run.now after.end after.run.now
