-- Demand 3's claim is not empty: a list of calls whose answers and written bytes are computed, with both choices, both methods and every
-- command of the dial on one shot, refused and accepted calls, and a reopening.
use Rattle.std.specs.Prelude.{◌≡◌, true, false, List, [], ◌∷◌, ◌++◌, map, ℕ, pos, negsuc, length}
use Rattle.std.specs.Float.{nan, fin}
use Rattle.tables.specs.Table.{◌among◌}
use Rattle.settings.specs.Setting.{full}
use Rattle.settings.specs.declared.Setting.TheVariants as S
use Rattle.dial.specs.Dial.{full_balance}
use Rattle.dial.specs.declared.Dial.{Dial}
use Rattle.dial.specs.declared.Dial.TheVariants.{Off, Mix, Hold}
use Rattle.colouring.specs.Written.{Written}
use Rattle.witness.specs.Strips.{two, one, both, uneven}
use Rattle.book.specs.Accuracy.{written}
use Rattle.book.specs.Book.{Call, Call.opening, Call.measuring, Call.fixing, Call.colouring}
use Rattle.book.specs.Run.{Step, number, trace, WellFormed}

-- A colouring with the dial at a command, by a method, of a source, into a destination.
abbrev pub colour : Dial → ℕ → List ℕ → List ℕ → Call
colour dial method source destination = colouring (record { method = method; dial = dial; source = source; destination = destination })

-- An amount of 1/2; one of minus zero, which is zero; one of 1/512, which is no stop.
abbrev pub half : Dial
half = Mix (fin false 1 (negsuc 0))

abbrev pub minus_zero : Dial
minus_zero = Mix (fin true 0 (pos 0))

abbrev pub between : Dial
between = Mix (fin false 1 (negsuc 8))

-- Held at 300, and at no number.
abbrev pub held300 : Dial
held300 = Hold (fin false 300 (pos 0))

abbrev pub held_nan : Dial
held_nan = Hold nan

-- Where a call breaks several rules, the first of them is named: (colour between 3 uneven one) breaks 7, 2, 8 and 17.
unfoldable pub calls : List Call
calls =
    colour between 3 uneven one
    ∷ fixing 3
    ∷ fixing 1
    ∷ measuring two
    ∷ measuring uneven
    ∷ measuring one
    ∷ fixing 3
    ∷ fixing 1
    ∷ measuring uneven
    ∷ fixing 3
    ∷ colour full_balance 1 both two
    ∷ colour full_balance 2 both two
    ∷ colour half 2 both two
    ∷ colour minus_zero 2 both two
    ∷ colour held300 1 both two
    ∷ colour Off 1 both two
    ∷ colour between 3 uneven one
    ∷ colour between 2 uneven one
    ∷ colour held_nan 2 both one
    ∷ colour between 2 both two
    ∷ colour held_nan 2 both two
    ∷ colour half 2 [] []
    ∷ opening
    ∷ colour full_balance 1 both two
    ∷ measuring []
    ∷ measuring two
    ∷ measuring one
    ∷ fixing 2
    ∷ colour full_balance 1 both two
    ∷ []

-- The pixels written in some steps, in order.
abbrev pub all_written : List Step → List Written
all_written [] = []
all_written (t ∷ steps) = written t ++ all_written steps

-- Claim: the calls bring bytes, and these are their numbers, how many pixels each writes, under which commands, and the bytes that
-- each leaves.
-- Proved: proofs/Calls.antt, `witness_runs`.
pub record WitnessRuns : Type 0 where
  pub well_formed : (c : Call) → c among calls → WellFormed c
  pub numbers : map number (trace calls)
      ≡ 6 ∷ 4 ∷ 5 ∷ 0 ∷ 2 ∷ 0 ∷ 4 ∷ 0 ∷ 1 ∷ 1 ∷ 0 ∷ 0 ∷ 0 ∷ 0 ∷ 0 ∷ 0 ∷ 7 ∷ 2 ∷ 8 ∷ 17 ∷ 18 ∷ 0 ∷ 0 ∷ 6 ∷ 0 ∷ 0 ∷ 0 ∷ 0 ∷ 0 ∷ []
  pub pixels : map (λ t. length (written t)) (trace calls)
      ≡ 0 ∷ 0 ∷ 0 ∷ 0 ∷ 0 ∷ 0 ∷ 0 ∷ 0 ∷ 0 ∷ 0 ∷ 2 ∷ 2 ∷ 2 ∷ 2 ∷ 2 ∷ 2 ∷ 0 ∷ 0 ∷ 0 ∷ 0 ∷ 0 ∷ 0 ∷ 0 ∷ 0 ∷ 0 ∷ 0 ∷ 0 ∷ 0 ∷ 2 ∷ []
  -- the commands that the pixels were written under, as the book reads them
  pub settings : map (λ w. w.setting) (all_written (trace calls))
      ≡ full ∷ full ∷ full ∷ full ∷ S.Mix 128 ∷ S.Mix 128 ∷ S.Mix 0 ∷ S.Mix 0 ∷ S.Hold 300 ∷ S.Hold 300 ∷ S.Off ∷ S.Off ∷ full ∷ full ∷ []
  pub bytes : map (λ t. t.outcome.bytes) (trace calls)
      ≡ one
      ∷ []
      ∷ []
      ∷ []
      ∷ []
      ∷ []
      ∷ []
      ∷ []
      ∷ []
      ∷ []
      ∷ (78 ∷ 85 ∷ 92 ∷ 119 ∷ 127 ∷ 136 ∷ [])
      ∷ (43 ∷ 85 ∷ 128 ∷ 119 ∷ 127 ∷ 136 ∷ [])
      -- half of that and half of the source, halves up
      ∷ (27 ∷ 53 ∷ 79 ∷ 105 ∷ 114 ∷ 123 ∷ [])
      ∷ both
      ∷ (93 ∷ 100 ∷ 107 ∷ 90 ∷ 100 ∷ 110 ∷ [])
      ∷ both
      ∷ one
      ∷ one
      ∷ one
      ∷ two
      ∷ two
      ∷ []
      ∷ []
      ∷ two
      ∷ []
      ∷ []
      ∷ []
      ∷ []
      ∷ (34 ∷ 43 ∷ 52 ∷ 119 ∷ 128 ∷ 136 ∷ [])
      ∷ []
