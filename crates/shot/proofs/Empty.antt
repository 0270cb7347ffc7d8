-- An empty strip changes nothing.
use mathlib.Core.Path.{◌≡◌, refl, sym}
use mathlib.Core.Bool.{true, false}
use mathlib.Core.List.{List, []}
use Prim.Native.Nat.{ℕ, ◌+◌}
use native.Mathlib.Nat.{add-zero}
use native.Mathlib.Omega.{arith}
use lib.ListN.{length}
use Rattle.tables.specs.Table.{at}
use Rattle.tables.proofs.Laws.{is_tabulate}
use Rattle.pixel.specs.Methods.{is_method}
use Rattle.dial.specs.Dial.{decoded, refusal_of}
use Rattle.dial.specs.declared.Dial.{Dial}
use Rattle.colouring.specs.Colouring.{coloured_under}
use Rattle.shot.specs.Empty.{EmptyStripsChangeNothing}
use Rattle.shot.specs.Reachable.{Reachable}
use Rattle.measuring.specs.Histogram.{with_pixels}
use Rattle.shot.specs.Shot.{with_strip, measured, coloured}
use Rattle.shot.specs.declared.Shot.{Shot}
use Rattle.shot.proofs.Answers.{measured_is}
use Rattle.shot.proofs.Holds.{reachable_holds}

-- no pixels added leave the counts as they are
no_pixels : (counts : List ℕ) → length counts ≡ 766 → with_pixels counts [] ≡ counts
unfolding with_pixels
no_pixels counts size = sym (is_tabulate (λ s. at counts s + 0) 766 counts size (λ s h. sym (add-zero (at counts s))))

-- nor do they change the shot
with_none : (x : Shot) → length x.counts ≡ 766 → with_strip x [] ≡ x
with_none x size =
    λ i. record { counts = no_pixels x.counts size i; pixels = add-zero x.pixels i; fixed = x.fixed; curve = x.curve }

empty_measured : (x : Shot) → Reachable x → x.fixed ≡ false → measured x [] ≡ record { shot = x; number = 0 }
empty_measured x r unfixed =
    let (ps, h) = reachable_holds r in
    rw (measured_is x [] unfixed (record { whole = refl; room = omega (arith, h.limit) }), with_none x h.size)

empty_coloured : (x : Shot) (method : ℕ) (dial : Dial) → x.fixed ≡ true → is_method method ≡ true → refusal_of (decoded dial) ≡ 0
    → coloured x (record { method = method; dial = dial; source = []; destination = [] })
    ≡ record { answer = record { shot = x; number = 0 }; bytes = [] }
unfolding coloured coloured_under
empty_coloured x method dial fixed known set = simp (fixed, known, set)

pub empty_strips_change_nothing : EmptyStripsChangeNothing
empty_strips_change_nothing = record { measuring = empty_measured; colouring = empty_coloured }
