-- Demand 3 (document 00): one claim about any list of opening, measuring, fixing and colouring calls, refused ones included, from a
-- freshly opened shot, whatever they bring. To be read from the end: `CallsAreAccurate`, then `Accurate`, then `StepAccurate`.
use Rattle.std.specs.Prelude.{◌≡◌, ◌&&◌, cond, List, [], ◌∷◌, ◌++◌, ℕ, ◌≤◌, eqb, length}
use Rattle.std.proofs.Math.Option.{Option, none, some}
use Rattle.tables.specs.Table.{at, ◌among◌}
use Rattle.pixel.specs.Methods.{method_of}
use Rattle.curve.specs.Curve.{curve_of, IsToneCurve}
use Rattle.measuring.specs.Histogram.{pixel_limit, pixels_in, count_of, count_up_to, cumulative}
use Rattle.colouring.specs.Written.{Written, WrittenRounded, Colouring, written_by, ColouringAccurate, KeepOrder}
use Rattle.dial.specs.declared.Dial.TheVariants as D
use Rattle.shot.specs.Reachable.{Reachable}
use Rattle.shot.specs.Shot.{ColourRequest, Outcome}
use Rattle.shot.specs.declared.Shot.{Shot}
use Rattle.book.specs.Book.{Call, Call.opening, Call.measuring, Call.fixing, Call.colouring, Book, has_curve, expected_answer}
use Rattle.book.specs.Reading.{setting_read}
use Rattle.book.specs.Run.{Step, number, trace, Occurs, WellFormed}

-- What the shot keeps is what the book holds.
pub record Represents (x : Shot) (b : Book) : Type 0 where
  -- each count is the number of held pixels of that intensity
  pub counts : (s : ℕ) → s ≤ 765 → at x.counts s ≡ count_of (pixels_in b.strips) s
  -- N is the number of held pixels
  pub pixels : x.pixels ≡ length (pixels_in b.strips)
  -- "H(s) is the number of measured pixels whose sum is at most s": the counts up to s add up to it
  pub up_to : (s : ℕ) → s ≤ 765 → cumulative x.counts s ≡ count_up_to (pixels_in b.strips) s
  -- "so H(765) = N"
  pub last : count_up_to (pixels_in b.strips) 765 ≡ x.pixels
  -- "At most 16,777,216 pixels to a shot."
  pub limit : x.pixels ≤ pixel_limit
  -- the shot is fixed exactly if the book has a curve, and then by that curve
  pub fixed : x.fixed ≡ has_curve b.curve
  pub curve : (c : List ℕ) → b.curve ≡ some c → x.curve ≡ c

-- The strip that a call brings to be measured.
abbrev pub strip_of : Call → List (List ℕ)
strip_of opening = []
strip_of (measuring strip) = strip ∷ []
strip_of (fixing choice) = []
strip_of (colouring q) = []

-- The strips of the accepted measurings among some steps, of those with n openings before them: all, and in order.
abbrev pub strips_measured : ℕ → List Step → List (List ℕ)
strips_measured n [] = []
strips_measured n (t ∷ ts) = cond (eqb t.openings n && eqb (number t) 0) (strip_of t.call) [] ++ strips_measured n ts

-- An accepted fixing, among some steps, of the shot with n openings before it made this curve: by its choice, from all strips
-- measured, in accepted calls, since that shot was opened. (A second fixing is refused, so there is only one.)
pub record FixedBy (n : ℕ) (steps : List Step) (curve : List ℕ) : Type 0 where
  pub fix : Step
  pub member : fix among steps
  pub same_shot : fix.openings ≡ n
  pub choice : ℕ
  pub call : fix.call ≡ fixing choice
  pub accepted : number fix ≡ 0
  pub made : curve ≡ curve_of choice (strips_measured n steps)

-- A request for no pixel.
abbrev pub no_request : ColourRequest
no_request = record { method = 1; dial = D.Off; source = []; destination = [] }

-- What a call asks to be coloured.
abbrev pub requested : Call → ColourRequest
requested opening = no_request
requested (measuring strip) = no_request
requested (fixing choice) = no_request
requested (colouring q) = q

-- The book's curve; without one, no entry (and 6 refuses a colouring).
abbrev pub entries : Option (List ℕ) → List ℕ
entries none = []
entries (some curve) = curve

-- A call with its outcome, taken as a colouring by the book's curve and the dial as the book reads it: a call that asks for no pixel is a
-- colouring of none.
abbrev pub colouring_of : Book → Call → Outcome → Colouring
colouring_of b c o =
    record {
      number = o.answer.number;
      setting = setting_read (requested c).dial;
      method = method_of (requested c).method;
      curve = entries b.curve;
      source = (requested c).source;
      before = (requested c).destination;
      after = o.bytes;
    }

-- A step of a list, taken as a colouring.
abbrev pub colouring_in : Step → Colouring
colouring_in t = colouring_of t.book t.call t.outcome

-- The pixels written in a step, each with the book's entry for its intensity.
abbrev pub written : Step → List Written
written t = written_by (colouring_in t)

-- What holds at the step t, after the steps `before`.
pub record StepAccurate (before : List Step) (t : Step) : Type 0 where
  -- the call's shot came from opening, measuring and fixing
  pub premise : Reachable t.shot
  -- the tally, H, N and the curve that the shot keeps are the book's, and N is within the limit
  pub represents : Represents t.shot t.book
  -- the book holds the strips of all accepted measurings since the last opening, in order
  pub strips : t.book.strips ≡ strips_measured t.openings before
  -- "each call has been accepted, or refused by its number, exactly as document 01's book has it"
  pub answer : number t ≡ expected_answer t.book t.call
  -- "the curve being that of all strips measured, in accepted calls, since its shot was opened"
  pub curve : (c : List ℕ) → t.book.curve ≡ some c → FixedBy t.openings before c
  -- a curve has 766 entries, the first 0 and the last 765, none above 765 and none less than the one before
  pub shape : (c : List ℕ) → t.book.curve ≡ some c → IsToneCurve c
  -- a colouring leaves the destination as long as it was, and a refused one leaves every byte of it; every pixel written is exact
  -- (demand 2), and "every pixel written keeps four rules", as its command has them
  pub colouring : ColouringAccurate (colouring_in t)

-- What holds of a list of calls. (What the last call leaves is covered too: the next step of a longer list starts from it.)
pub record Accurate (calls : List Call) : Type 0 where
  pub steps : (before : List Step) (t : Step) → Occurs (trace calls) before t → StepAccurate before t
  -- "and of any two pixels of the same shot, whichever colourings and methods wrote them, the one whose input sum is no smaller has
  -- a sum at most two below the other's"; by document 02, wish 1, under a mix at most five, and "only pixels coloured under one command
  -- with one amount or held value" are compared
  pub order : (before before' : List Step) (t u : Step) → Occurs (trace calls) before t → Occurs (trace calls) before' u
      → t.openings ≡ u.openings → (v w : Written) → v among written t → w among written u → KeepOrder v w

-- Claim: demand 2 for every pixel written in a list of calls: each sample is the exact value of the paper's formula, rounded once, of a held
-- move to the held value and of the full balance that a mix takes; the floor of the mix, and off's copy, beside it. Proved:
-- proofs/Accuracy.antt, `calls_round_the_paper`.
abbrev pub CallsRoundThePaper : Type 0
CallsRoundThePaper =
    (calls : List Call) → ((c : Call) → c among calls → WellFormed c)
    → (before : List Step) (t : Step) → Occurs (trace calls) before t → (w : Written) → w among written t → WrittenRounded w

-- Claim: demand 3. Proved: proofs/Accuracy.antt, `accuracy`.
abbrev pub CallsAreAccurate : Type 0
CallsAreAccurate = (calls : List Call) → ((c : Call) → c among calls → WellFormed c) → Accurate calls
