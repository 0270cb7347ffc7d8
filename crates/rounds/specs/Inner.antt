-- What functions of this program ensure. No customer calls them.
use Rattle.std.specs.Prelude.{◌≡◌, List, ℕ, ◌+◌, ◌*◌}
use Rattle.tables.specs.Table.{at}
use Rattle.dial.specs.Dial.{IsExactly}
use Rattle.dial.specs.declared.Dial.{Dial}
use Rattle.dial.specs.declared.Dial.TheVariants.{Off, Mix, Hold}
use Rattle.shot.specs.Shot.{opened, measured, fixed_with, Outcome, coloured}
use Rattle.shot.specs.declared.Shot.{Shot}
use Rattle.rounds.specs.declared.Head.{Head}

-- The command of a kind (0 off, 1 mix, 2 hold) that carries a number exactly: in 256ths where it is an amount.
abbrev pub Names : ℕ → ℕ → Dial → Type 0
Names kind number Off = kind ≡ 0
Names kind number (Mix x) = (kind ≡ 1) × IsExactly x number 256
Names kind number (Hold x) = (kind ≡ 2) × IsExactly x number 1

-- What eight bytes are read as.
pub record IsHead (bytes : List ℕ) (head : Head) : Type 0 where
  pub names : Names (at bytes 0) (at bytes 1 + 256 * at bytes 2) head.dial
  pub method : head.method ≡ at bytes 3
  pub more : head.more ≡ at bytes 4 + 256 * at bytes 5 + 65536 * at bytes 6 + 16777216 * at bytes 7

-- A strip as a shot of its own: opened, measured, and fixed by choice 1.
abbrev pub own_shot : List ℕ → Shot
own_shot strip = (fixed_with (measured opened strip).shot 1).shot

-- What a run leaves in the destination, and its last answer: one colouring of the strip by its own shot, with the head's dial and method. (How
-- often it was made is not seen.)
pub record ColouredByHead (head strip destination : List ℕ) (o : Outcome) : Type 0 where
  pub dial : Dial
  pub names : Names (at head 0) (at head 1 + 256 * at head 2) dial
  pub left : coloured (own_shot strip) (record { method = at head 3; dial = dial; source = strip; destination = destination }) ≡ o
