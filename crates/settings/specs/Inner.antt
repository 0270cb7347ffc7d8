-- What the functions of this crate ensure; their callers are other crates, and no outside call's contract cites it.
use Rattle.std.specs.Prelude.{List, [], ◌∷◌, ℕ}
use Rattle.settings.specs.Setting.{mixed}

-- The bytes of a source, each mixed with that of its full balance.
abbrev pub mixed_bytes : ℕ → List ℕ → List ℕ → List ℕ
mixed_bytes k [] balance = []
mixed_bytes k (c ∷ source) [] = []
mixed_bytes k (c ∷ source) (c' ∷ balance) = mixed k c c' ∷ mixed_bytes k source balance
