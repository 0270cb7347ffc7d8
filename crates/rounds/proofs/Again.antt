-- A colouring that is made again leaves what the first one left.
use mathlib.Core.Path.{◌≡◌, refl, sym, ap, ◌∙◌, subst}
use mathlib.Core.Bool.{Bool, true, false, not, cond}
use mathlib.Core.List.{List}
use Prim.Native.Nat.{ℕ}
use lib.Dec.{eqb}
use lib.ListN.{length}
use Rattle.refusal.specs.Refusal.{first_of}
use Rattle.pixel.specs.Methods.{is_method}
use Rattle.pixel.specs.Strip.{is_whole}
use Rattle.dial.specs.Dial.{decoded, refusal_of}
use Rattle.shot.specs.Shot.{ColourRequest, Outcome, colour_checks, colouring_outcome, coloured}
use Rattle.shot.specs.declared.Answer.{Answer}
use Rattle.shot.specs.declared.Shot.{Shot}

-- the same request with another destination
abbrev pub into : ColourRequest → List ℕ → ColourRequest
into q bytes = record { method = q.method; dial = q.dial; source = q.source; destination = bytes }

-- what is written over is written once more, and what is left is left
twice : {A : Type 0} (accepted : Bool) (new old : A) → cond accepted new (cond accepted new old) ≡ cond accepted new old
twice true new old = refl
twice false new old = refl

module _ (x : Shot) (q : ColourRequest) where
  -- the number of a colouring into a destination of this length
  abbrev number_at : ℕ → ℕ
  number_at size =
      first_of
      (colour_checks x.fixed (is_method q.method) (is_whole (length q.source)) (eqb size (length q.source))
      (not (eqb (refusal_of (decoded q.dial)) 17)) (not (eqb (refusal_of (decoded q.dial)) 18)))

  over_itself : length (coloured x q).bytes ≡ length q.destination → coloured x (into q (coloured x q).bytes) ≡ coloured x q
  unfolding coloured
  over_itself same =
      ap (λ (n : ℕ). colouring_outcome n x (into q (coloured x q).bytes)) (ap number_at same)
      ∙ ap (λ (bytes : List ℕ). record { answer = (coloured x q).answer; bytes = bytes })
      (twice (eqb (number_at (length q.destination)) 0) _ q.destination)

  coloured_again : (o : Outcome) → coloured x q ≡ o → length o.bytes ≡ length q.destination
      → coloured o.answer.shot (into q o.bytes) ≡ o
  unfolding coloured
  coloured_again o e =
      subst (λ (o : Outcome). length o.bytes ≡ length q.destination → coloured o.answer.shot (into q o.bytes) ≡ o) e over_itself

  -- the same for a shot and a destination that are known to be those that it left
  pub again_same : (o : Outcome) → coloured x q ≡ o → length o.bytes ≡ length q.destination
      → (a : Answer) (bytes : List ℕ) → a ≡ o.answer → bytes ≡ o.bytes
      → (p : Outcome) → coloured a.shot (into q bytes) ≡ p → p ≡ o
  again_same o e size a bytes answer left p second =
      sym second
      ∙ ap (λ (b : List ℕ). coloured a.shot (into q b)) left
      ∙ ap (λ (b : Answer). coloured b.shot (into q o.bytes)) answer
      ∙ coloured_again o e size
