-- The invariant of `filter_words::line_of`: the line and the words that are left come to all words.
use Rattle.std.proofs.Common.{◌≡◌, map, string_bytes, ◌++◌}
use Rattle.std.specs.Vec.Iter.{into_iter_items}
use Rattle.filter_words.specs.FilterWords.{spaced}
use Rattle.filter_words.proofs.line_of.Given as goal

abbrev pub invariant-loop-word : goal.invariant-loop-word
invariant-loop-word l =
    spaced (map string_bytes (into_iter_items l.initial.word-iterator))
    ≡ string_bytes l.line ++ spaced (map string_bytes (into_iter_items l.word-iterator))
