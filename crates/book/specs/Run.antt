-- A list of calls on one shot (document 01, "The book and the whole run").
use Rattle.std.specs.Prelude.{◌≡◌, Bool, true, false, cond, List, [], ◌∷◌, ◌++◌, ℕ, suc}
use Rattle.pixel.specs.Strip.{Bytes}
use Rattle.shot.specs.Shot.{opened, measured, fixed_with, ColourRequest, Outcome, coloured}
use Rattle.shot.specs.declared.Shot.{Shot}
use Rattle.book.specs.Book.{Call, Call.opening, Call.measuring, Call.fixing, Call.colouring, Book, empty_book, book_step}

-- What the program does on a call; the contracts of src/lib.rt's functions, which hand on to the shot's own, are this.
abbrev pub step : Shot → Call → Outcome
step x opening = record { answer = record { shot = opened; number = 0 }; bytes = [] }
step x (measuring strip) = record { answer = measured x strip; bytes = [] }
step x (fixing choice) = record { answer = fixed_with x choice; bytes = [] }
step x (colouring q) = coloured x q

-- Claim: on each call `step` gives the definition that the contract of the call's function cites. Proved: proofs/Run.antt, `steps_follow_contracts`.
pub record StepsFollowContracts : Type 0 where
  -- `Shot::open` hands back `opened`
  pub opens : (x : Shot) → (step x opening).answer.shot ≡ opened
  -- `Shot::measure` hands back `measured self strip`
  pub measures : (x : Shot) (strip : List ℕ) → (step x (measuring strip)).answer ≡ measured x strip
  -- `Shot::fix` hands back `fixed_with self choice`
  pub fixes : (x : Shot) (choice : ℕ) → (step x (fixing choice)).answer ≡ fixed_with x choice
  -- what `Shot::colour` hands back, and what the destination then holds, are `coloured self request`
  pub colours : (x : Shot) (request : ColourRequest) → step x (colouring request) ≡ coloured x request

-- A call of the list: how many openings stand before it, the shot that it gets, the book before it, and what the program did.
pub record Step : Type 0 where
  pub call : Call
  pub openings : ℕ
  pub shot : Shot
  pub book : Book
  pub outcome : Outcome

-- The number that the program answered.
abbrev pub number : Step → ℕ
number t = t.outcome.answer.number

-- Whether a call opens a shot.
abbrev pub is_opening : Call → Bool
is_opening opening = true
is_opening (measuring strip) = false
is_opening (fixing choice) = false
is_opening (colouring q) = false

-- "Each call gets the shot that the last one handed back or left; an opening puts a new shot in its place."
abbrev pub trace_from : ℕ → Shot → Book → List Call → List Step
trace_from n x b [] = []
trace_from n x b (c ∷ cs) =
    record { call = c; openings = n; shot = x; book = b; outcome = step x c }
    ∷ trace_from (cond (is_opening c) (suc n) n) (step x c).answer.shot (book_step b c) cs

-- "It starts from a freshly opened shot."
abbrev pub trace : List Call → List Step
trace calls = trace_from 0 opened empty_book calls

-- t is a step of the list, and `before` are those that stand before it.
pub record Occurs (steps before : List Step) (t : Step) : Type 0 where
  pub after : List Step
  pub split : steps ≡ before ++ (t ∷ after)

-- What is asked of what a call brings: samples are bytes. A strip may have any length, choice and method may be any numbers, and a dial may
-- carry any float, NaN included.
abbrev pub WellFormed : Call → Type 0
WellFormed opening = Unit {0}
WellFormed (measuring strip) = Bytes strip
WellFormed (fixing choice) = Unit {0}
WellFormed (colouring q) = Bytes q.source
