-- Words put together to a line.
use mathlib.Core.Path.{◌≡◌, sym, ap, ◌∙◌}
use mathlib.Core.List.{List, [], ◌∷◌, ◌++◌, append-nil, append_assoc}
use Prim.Native.Nat.{ℕ}
use native.Mathlib.Omega.{arith}
use lib.ListN.{length}
use Rattle.std.proofs.Common.{map, string_bytes, String, Global}
use Rattle.text.specs.Text.{ascii}
use Rattle.filter_words.specs.FilterWords.{spaced}

-- the next word and its space go from what is left to the line
pub word_more : (all line with_word with_space word : List ℕ) (words : List (List ℕ)) → all ≡ line ++ spaced (word ∷ words)
    → with_word ≡ line ++ word → with_space ≡ with_word ++ ascii " " → all ≡ with_space ++ spaced words
word_more all line with_word with_space word words is worded spaced_too =
    is
    ∙ sym (append_assoc line word (ascii " " ++ spaced words))
    ∙ ap (λ (l : List ℕ). l ++ (ascii " " ++ spaced words)) (sym worded)
    ∙ sym (append_assoc with_word (ascii " ") (spaced words))
    ∙ ap (λ (l : List ℕ). l ++ spaced words) (sym spaced_too)

-- where no word is left, the line has them all
pub words_done : (all line : List ℕ) (words : List (String Global)) → all ≡ line ++ spaced (map string_bytes words) → 0 ≡ length words → line ≡ all
words_done all line [] is none = sym (is ∙ append-nil line)
words_done all line (word ∷ words) is none = absurd (omega (arith, none))
