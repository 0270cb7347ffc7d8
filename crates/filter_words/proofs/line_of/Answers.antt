-- `filter_words::line_of` meets its contract: each turn puts the next word to the line.
use Rattle.std.proofs.Common.{ℕ, map, string_bytes, String, Global, List, ◌++◌, refl, sym, ap, ◌∙◌}
use Rattle.std.specs.Vec.Iter.{into_iter_items}
use Rattle.filter_words.specs.FilterWords.{spaced}
use Rattle.filter_words.proofs.Lines.{word_more, words_done}
use Rattle.filter_words.proofs.line_of.Goals as goal

pub loop-word-preserved : goal.loop-word-preserved
loop-word-preserved c =
    word_more _ (string_bytes c.loop-word.line) (string_bytes c.push_str.new.self) _ (string_bytes c.in-Some.word) _
    (c.loop-word.invariant
    ∙ ap (λ (ws : List (String Global)). string_bytes c.loop-word.line ++ spaced (map string_bytes ws)) c.in-Some.ensures.steps.0)
    (c.in_ok-push_str.ensures.bytes ∙ ap (λ (w : List ℕ). string_bytes c.loop-word.line ++ w) c.as_str.ensures.value) c.in_ok-push_str-2.ensures.bytes

pub returns : goal.returns
returns c =
    words_done _ (string_bytes c.loop-word.line) (into_iter_items c.loop-word.word-iterator) c.loop-word.invariant
    (sym c.in-None.ensures.steps.0 ∙ c.loop-word.word-iterator.rest.ok.0)
    ∙ rw c.into_iter-word-iterator.ensures.into_iter_gives refl
