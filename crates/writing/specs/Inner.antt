-- What the functions of this crate ensure; their callers are other crates, and no outside call's contract cites it.
use Rattle.std.specs.Prelude.{List, ◌++◌, ◌≡◌, ℕ, ◌+◌, length, take, drop}

-- From byte i on, `after` holds these bytes and then what `before` held there; up to byte `touched` it holds what `before` held.
-- Of the bytes between, from `touched` to i, nothing is said.
pub record WrittenFrom (before after : List ℕ) (touched i : ℕ) (bytes : List ℕ) : Type 0 where
  pub kept : take touched after ≡ take touched before
  pub written : drop i after ≡ bytes ++ drop (i + length bytes) before
