-- What follows from where a shot came from, for the calls' own proofs.
use mathlib.Core.Path.{◌≡◌, sym, subst}
use mathlib.Core.Bool.{true}
use mathlib.Core.List.{List}
use Prim.Native.Nat.{ℕ, ◌≤◌, ◌<◌}
use native.Mathlib.Omega.{arith}
use lib.Dec.{eqb}
use Rattle.pixel.specs.Strip.{Bytes}
use Rattle.measuring.specs.Histogram.{pixel_limit}
use Rattle.measuring.specs.Inner.{CountsFit}
use Rattle.measuring.proofs.Counts.{count_le}
use Rattle.curve.specs.Inner.{HistogramOf}
use Rattle.curve.specs.Curve.{EntriesInRange}
use Rattle.curve.proofs.Histogram.{tally_is_histogram}
use Rattle.shot.specs.Reachable.{Reachable, Reachable.by_opening, Reachable.by_measuring, Reachable.by_fixing}
use Rattle.shot.specs.Shot.{opened, measured, fixed_with, ColourRequest, Outcome, coloured}
use Rattle.shot.specs.declared.Shot.{Shot}
use Rattle.shot.specs.declared.Answer.{Answer}
use Rattle.shot.proofs.Holds.{reachable_holds}
use Rattle.shot.proofs.Passed.{MeasuringAccepted}

module _ {x : Shot} (r : Reachable x) where
  -- a shot's pixels are within the limit
  pub within_limit : x.pixels ≤ pixel_limit
  within_limit = (reachable_holds r).1.limit

  -- the counts can take an accepted strip
  pub counts_fit : (strip : List ℕ) → MeasuringAccepted x strip → CountsFit x.counts strip
  counts_fit strip ok =
      let (ps, h) = reachable_holds r in
      record {
        whole = ok.whole;
        fit = λ s l. omega (arith, h.counts s l, count_le (λ i. eqb i s) ps, h.pixels, ok.room);
      }

  -- the counts of a shot with pixels are their histogram
  pub histogram_of : 0 < x.pixels → HistogramOf x.pixels x.counts
  histogram_of positive =
      let (ps, h) = reachable_holds r in
      subst (λ (n : ℕ). HistogramOf n x.counts) (sym h.pixels)
      (tally_is_histogram x.counts ps h.counts h.counted (omega (arith, h.pixels)) (omega (arith, h.pixels, h.limit)))

  -- a fixed shot's curve has no entry above 765
  pub entries_in_range : x.fixed ≡ true → EntriesInRange x.curve
  entries_in_range fixed = ((reachable_holds r).1.curve fixed).range

-- What each call hands back came from the calls too.
pub from_open : {y : Shot} → y ≡ opened → Reachable y
from_open e = subst Reachable (sym e) by_opening

pub from_measure : {x : Shot} {a : Answer} (strip : List ℕ) → Reachable x → Bytes strip → a ≡ measured x strip → Reachable a.shot
from_measure strip r bytes e = subst (λ (b : Answer). Reachable b.shot) (sym e) (by_measuring r strip bytes)

pub from_fix : {x : Shot} {a : Answer} (choice : ℕ) → Reachable x → a ≡ fixed_with x choice → Reachable a.shot
from_fix choice r e = subst (λ (b : Answer). Reachable b.shot) (sym e) (by_fixing r choice)

-- colouring hands back the shot that it got (cited by nothing: it stands so that each call has its law)
pub from_colour : {x : Shot} {a : Answer} (q : ColourRequest) (bytes : List ℕ) → Reachable x
    → coloured x q ≡ record { answer = a; bytes = bytes } → Reachable a.shot
unfolding coloured
from_colour q bytes r e = subst (λ (o : Outcome). Reachable o.answer.shot) e r
