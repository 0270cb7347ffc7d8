-- The cube's target G(k), k from 0 to 765 (document 01, "The cube's target").
use Rattle.std.specs.Prelude.{cond, ℕ, ◌+◌, ◌*◌, ◌-◌, leb}

-- k³
abbrev pub cubed : ℕ → ℕ
cubed k = k * k * k

-- k at most 255: k³
abbrev pub low : ℕ → ℕ
low k = cubed k

-- k from 255 to 510: 3·255³ − 2k³ + 9·255·k² − 9·255²·k. What is added comes first, so that nothing is cut off at 0.
abbrev pub middle : ℕ → ℕ
middle k = 3 * cubed 255 + 9 * 255 * (k * k) - (2 * cubed k + 9 * (255 * 255) * k)

-- k at least 510: 6·255³ − (765 − k)³
abbrev pub high : ℕ → ℕ
high k = 6 * cubed 255 - cubed (765 - k)

-- The target G(k), by these lines.
unfoldable pub G : ℕ → ℕ
G k = cond (leb k 255) (low k) (cond (leb k 510) (middle k) (high k))
