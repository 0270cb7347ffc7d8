-- Demand 3: every list of calls, from a freshly opened shot.
use mathlib.Core.Path.{◌≡◌, refl, sym, ap, ◌∙◌, subst}
use mathlib.Core.List.Memᴰ
use mathlib.Core.List.{List, [], ◌∷◌, ◌++◌, append_assoc, append-nil}
use mathlib.Core.Logic.{◌⊎◌, inl, inr, ⊎_elim}
use mathlib.Core.Option.{some}
use Prim.Native.Nat.{ℕ}
use native.Mathlib.Omega.{arith}
use lib.ListN.{length}
use Rattle.tables.specs.Table.{◌among◌}
use Rattle.colouring.specs.Written.{Written}
use Rattle.colouring.proofs.Written.{Performed, written_in, colouring_accurate, colourings_keep_order}
use Rattle.shot.specs.Reachable.{Reachable, Reachable.by_opening, Reachable.by_measuring, Reachable.by_fixing}
use Rattle.shot.specs.Shot.{Outcome, coloured}
use Rattle.shot.specs.declared.Shot.{Shot}
use Rattle.book.specs.Accuracy.{entries, colouring_of, colouring_in, written, StepAccurate, CallsRoundThePaper, CallsAreAccurate}
use Rattle.book.specs.Book.{Call, Call.opening, Call.measuring, Call.fixing, Call.colouring, Book}
use Rattle.book.specs.Run.{step, Step, number, trace_from, trace, Occurs, WellFormed}
use Rattle.book.proofs.Colourings.{curve_of_call, performed}
use Rattle.book.proofs.Represents.{HoldsBook, represents, shape, some_same, holds_empty_book, answers_agree, holds_after}
use Rattle.book.proofs.Steps.{BookAfter, after_none, after_more}

-- what stands first in equal lists, and what follows it
cons_head : {A : Type 0} {a b : A} {l k : List A} → a ∷ l ≡ b ∷ k → a ≡ b
cons_head e = cc

cons_tail : {A : Type 0} {a b : A} {l k : List A} → a ∷ l ≡ b ∷ k → l ≡ k
cons_tail e = cc

nil_cons : {A : Type 0} {a : A} {l : List A} → [] ≡ a ∷ l → ⊥
nil_cons e = omega (arith, ap length e)

-- an empty list has no step
no_step : (before : List Step) (t : Step) → Occurs [] before t → ⊥
no_step [] t o = nil_cons o.split
no_step (u ∷ before) t o = nil_cons o.split

-- a step after the first is a step of the rest
rest : {s u t : Step} {steps before : List Step} → Occurs (s ∷ steps) (u ∷ before) t → Occurs steps before t
rest o = record { after = o.after; split = cons_tail o.split }

-- each call hands back or leaves a shot that came from the calls
pub reachable_step : {x : Shot} → Reachable x → (c : Call) → WellFormed c → Reachable (step x c).answer.shot
unfolding coloured
reachable_step r opening ok = by_opening
reachable_step r (measuring strip) ok = by_measuring r strip ok
reachable_step r (fixing choice) ok = by_fixing r choice
reachable_step r (colouring q) ok = r

-- what holds at a step after the steps `before`
record StepFacts (before : List Step) (t : Step) : Type 0 where
  reachable : Reachable t.shot
  holds : HoldsBook t.shot t.book
  after : BookAfter t.openings t.book before
  did : t.outcome ≡ step t.shot t.call
  brings : WellFormed t.call

-- it holds at every step
facts_from : (calls : List Call) → ((c : Call) → c among calls → WellFormed c)
    → {n : ℕ} {x : Shot} {b : Book} {steps : List Step} → Reachable x → HoldsBook x b → BookAfter n b steps
    → (before : List Step) (t : Step) → Occurs (trace_from n x b calls) before t → StepFacts (steps ++ before) t
facts_from [] ok r h p before t o = absurd (no_step before t o)
facts_from (c ∷ cs) ok {n} {x} {b} {steps} r h p [] t o =
    rw (sym (cons_head o.split), append-nil)
    (record { reachable = r; holds = h; after = p; did = refl; brings = ok c (Memᴰ.head refl) })
facts_from (c ∷ cs) ok {n} {x} {b} {steps} r h p (u ∷ before) t o =
    let s : Step = record { call = c; openings = n; shot = x; book = b; outcome = step x c } in
    let now = ok c (Memᴰ.head refl) in
    let others = facts_from cs (λ d m. ok d (Memᴰ.tail m)) (reachable_step r c now) (holds_after h c now)
    (after_more p s refl refl (answers_agree (represents h) c)) before t (rest o) in
    subst (λ (l : List Step). StepFacts l t) (append_assoc steps (s ∷ []) before ∙ ap (λ (v : Step). steps ++ (v ∷ before)) (cons_head o.split)) others

-- two steps of one list: the same, or one stands before the other
in_order : {steps : List Step} (before before' : List Step) (t u : Step) → Occurs steps before t → Occurs steps before' u
    → (t ≡ u) ⊎ ((t among before') ⊎ (u among before))
in_order {steps} [] [] t u o o' = inl (cons_head (sym o.split ∙ o'.split))
in_order [] (v ∷ before') t u o o' = inr (inl (Memᴰ.head (cons_head (sym o.split ∙ o'.split))))
in_order (v ∷ before) [] t u o o' = inr (inr (Memᴰ.head (cons_head (sym o'.split ∙ o.split))))
in_order (v ∷ before) (v' ∷ before') t u o o' =
    ⊎_elim (λ (e : t ≡ u). inl e)
    (λ (k : (t among before') ⊎ (u among before)).
    inr (⊎_elim (λ (m : t among before'). inl (Memᴰ.tail m)) (λ (m : u among before). inr (Memᴰ.tail m)) k))
    (in_order before before' t u (record { after = o.after; split = refl })
    (record { after = o'.after; split = cons_tail (sym o.split ∙ o'.split) }))

-- what a step leaves, taken as a colouring
step_performed : {before : List Step} {t : Step} → StepFacts before t → Performed (colouring_in t)
step_performed {before} {t} g =
    subst (λ (o : Outcome). Performed (colouring_of t.book t.call o)) (sym g.did) (performed g.holds t.call g.brings)

-- a step that wrote a pixel has a curve
step_curve : {before : List Step} {t : Step} → StepFacts before t → (w : Written) → w among written t
    → (curve : List ℕ) × (t.book.curve ≡ some curve)
step_curve {before} {t} g w m =
    let is = written_in (colouring_in t) (step_performed g) w m in
    curve_of_call g.holds t.call (sym (ap (λ (o : Outcome). o.answer.number) g.did) ∙ is.accepted) is.some

-- steps of one shot that both have a curve have the same one
one_curve : {before before' : List Step} {t u : Step} → StepFacts before t → StepFacts before' u → t.openings ≡ u.openings
    → (t ≡ u) ⊎ ((t among before') ⊎ (u among before))
    → (c d : List ℕ) → t.book.curve ≡ some c → u.book.curve ≡ some d → c ≡ d
one_curve {before} {before'} {t} {u} g h same order c d ec ed =
    ⊎_elim (λ (e : t ≡ u). some_same (sym ec ∙ ap (λ (s : Step). s.book.curve) e ∙ ed))
    (λ (k : (t among before') ⊎ (u among before)).
    ⊎_elim (λ (m : t among before'). some_same (sym (h.after.kept t m same c ec) ∙ ed))
    (λ (m : u among before). some_same (sym ec ∙ g.after.kept u m (sym same) d ed))
    k)
    order

-- so two steps of one shot that wrote pixels wrote them by the same curve
same_entries : {before before' : List Step} {t u : Step} → StepFacts before t → StepFacts before' u → t.openings ≡ u.openings
    → (t ≡ u) ⊎ ((t among before') ⊎ (u among before))
    → (v w : Written) → v among written t → w among written u → entries t.book.curve ≡ entries u.book.curve
same_entries g h same order v w mv mw =
    let (c, ec) = step_curve g v mv in
    let (d, ed) = step_curve h w mw in
    ap entries ec ∙ one_curve g h same order c d ec ed ∙ sym (ap entries ed)

-- what follows for each step
step_accurate : {before : List Step} {t : Step} → StepFacts before t → StepAccurate before t
step_accurate {before} {t} g =
    record {
      premise = g.reachable;
      represents = represents g.holds;
      strips = g.after.strips;
      answer = answered ∙ answers_agree (represents g.holds) t.call;
      curve = g.after.fixed;
      shape = shape g.holds;
      colouring = colouring_accurate (colouring_in t) (step_performed g);
    }
  where
    answered : number t ≡ (step t.shot t.call).answer.number
    answered = ap (λ (o : Outcome). o.answer.number) g.did

-- every list starts from a freshly opened shot
step_facts : (calls : List Call) → ((c : Call) → c among calls → WellFormed c)
    → (before : List Step) (t : Step) → Occurs (trace calls) before t → StepFacts before t
step_facts calls ok = facts_from calls ok by_opening holds_empty_book after_none

-- what a step's call brings is as asked
pub step_brings : (calls : List Call) → ((c : Call) → c among calls → WellFormed c)
    → (before : List Step) (t : Step) → Occurs (trace calls) before t → WellFormed t.call
step_brings calls ok before t o = (step_facts calls ok before t o).brings

pub accuracy : CallsAreAccurate
accuracy calls ok =
    record {
      steps = λ before t o. step_accurate (step_facts calls ok before t o);
      order =
          λ before before' t u o o' same v w mv mw.
          let g = step_facts calls ok before t o in
          let h = step_facts calls ok before' u o' in
          colourings_keep_order (colouring_in t) (colouring_in u) (step_performed g) (step_performed h)
          (same_entries g h same (in_order before before' t u o o') v w mv mw)
          v
          w
          mv
          mw;
    }

pub calls_round_the_paper : CallsRoundThePaper
calls_round_the_paper calls ok before t o = ((accuracy calls ok).steps before t o).colouring.rounded
