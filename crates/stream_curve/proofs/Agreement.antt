-- A stream gets the curve of a shot that measures it as one strip.
use mathlib.Core.Path.{◌≡◌, refl, sym, ap, subst, ◌∙◌}
use mathlib.Core.Bool.{true, not, ◌||◌}
use mathlib.Core.List.Memᴰ
use mathlib.Core.List.{List, [], ◌∷◌}
use mathlib.Core.Logic.{⊎_elim}
use Prim.Native.Nat.{ℕ, zero, suc, ◌*◌, ◌/◌, ◌%◌, ◌≤◌}
use native.Mathlib.Omega.{arith}
use borrow.Author.Tests.{eq-eqb, eqb-true, not-false, lt-ltb}
use lib.Dec.{eqb, ltb}
use lib.ListN.{length, take, drop}
use Rattle.std.proofs.lemmas.List.{length-take-le, length-drop}
use Rattle.std.specs.Prelude.{Ok}
use Rattle.refusal.specs.Refusal.{are_numbered}
use Rattle.refusal.proofs.Laws.{none_applies, accepted_leaves, either_leaves}
use Rattle.pixel.specs.Strip.{is_whole, Bytes}
use Rattle.pixel.proofs.Strips.{whole_means}
use Rattle.curve.specs.Curve.{IsToneCurve}
use Rattle.curve_bytes.specs.CurveBytes.{curve_length, curve_bytes, curve_entries}
use Rattle.curve_bytes.proofs.CurveBytes.{length_bytes, read_back}
use Rattle.shot.specs.Reachable.{Reachable.by_opening, Reachable.by_measuring, Reachable.by_fixing}
use Rattle.shot.specs.Shot.{opened, measured, fixed_with}
use Rattle.shot.specs.declared.Answer.{Answer}
use Rattle.shot.specs.declared.Shot.{Shot}
use Rattle.shot.proofs.Answers.{fixed_is}
use Rattle.shot.proofs.Holds.{reachable_holds}
use Rattle.shot.proofs.Passed.{measure_passed, fix_passed}
use Rattle.pieces.specs.Pieces.{piece_length, first_pieces, pieces_of, EachWhole}
use Rattle.pieces.proofs.Pieces.{pieces_are_the_stream}
use Rattle.stream_curve.specs.StreamCurve.{measured_in_turn, StreamCurve, curve_checks, stream_measured, stream_fixed, stream_curve, fixed_at_once, StreamsFollowShots}
use Rattle.stream_curve.proofs.Cutting.{any_cutting_measures_alike}
use Rattle.stream_curve.proofs.Told.{fixing_told}
use Rattle.stream_curve.proofs.Turns.{opened_unfixed, stays_unfixed}

-- with a whole piece before them, whole pieces are still whole
whole_cons : (piece : List ℕ) (pieces : List (List ℕ)) → is_whole (length piece) ≡ true → EachWhole pieces → EachWhole (piece ∷ pieces)
whole_cons piece pieces first others one m =
    ⊎_elim (λ (e : one ≡ piece). subst (λ (l : List ℕ). is_whole (length l) ≡ true) (sym e) first) (others one)
    (Memᴰ.cases_cons m)

-- the first pieces of whole pixels are whole
first_pieces_whole : (n : ℕ) (stream : List ℕ) → n * piece_length ≤ length stream → length stream % 3 ≡ 0 → EachWhole (first_pieces n stream)
first_pieces_whole zero stream enough whole =
    whole_cons stream [] (eq-eqb _ _ whole) (λ piece m. absurd (Memᴰ.not-nil m))
first_pieces_whole (suc n) stream enough whole =
    whole_cons (take piece_length stream) (first_pieces n (drop piece_length stream))
    (eq-eqb _ _ (omega (arith, length-take-le piece_length stream (omega (arith, enough)))))
    (first_pieces_whole n (drop piece_length stream) (omega (arith, enough, length-drop piece_length stream))
    (omega (arith, enough, whole, length-drop piece_length stream)))

-- so all of their pieces are
pieces_whole : (stream : List ℕ) → length stream % 3 ≡ 0 → EachWhole (pieces_of stream)
unfolding pieces_of
pieces_whole stream whole = first_pieces_whole (length stream / piece_length) stream (omega arith) whole

-- strips that are accepted in turn are whole
accepted_whole : (x : Shot) (strips : List (List ℕ)) → (measured_in_turn x strips).number ≡ 0 → EachWhole strips
accepted_whole x [] ok = λ piece m. absurd (Memᴰ.not-nil m)
accepted_whole x (strip ∷ strips) ok =
    let others = measured_in_turn (measured x strip).shot strips in
    let first : (measured x strip).number ≡ 0 =
    either_leaves (measured x strip).number others (measured x strip) (λ (a : Answer). a.number ≡ 0 → (measured x strip).number ≡ 0)
    (λ zero e. zero) (λ e. e) ok in
    whole_cons strip strips (measure_passed x strip first).whole
    (accepted_whole (measured x strip).shot strips
    (sym (ap (λ (a : Answer). a.number) (accepted_leaves (measured x strip).number others (measured x strip) first)) ∙ ok))

-- A stream.
module _ (stream : List ℕ) where
  -- what measuring it as one strip accepts, its measuring in pieces hands back
  as_one_strip : (measured opened stream).number ≡ 0 → stream_measured stream ≡ measured opened stream
  as_one_strip ok =
      any_cutting_measures_alike.same opened by_opening (pieces_of stream)
      (pieces_whole stream (whole_means (length stream) (measure_passed opened stream ok).whole))
      (ap (λ (l : List ℕ). (measured opened l).number) (pieces_are_the_stream stream) ∙ ok)
      ∙ ap (measured opened) (pieces_are_the_stream stream)

  -- and what is accepted in pieces is accepted as one strip
  from_pieces : (stream_measured stream).number ≡ 0 → (measured opened stream).number ≡ 0
  from_pieces ok =
      sym (ap (λ (l : List ℕ). (measured opened l).number) (pieces_are_the_stream stream))
      ∙ sym (any_cutting_measures_alike.number opened by_opening (opened_unfixed refl) (pieces_of stream)
      (accepted_whole opened (pieces_of stream) ok))
      ∙ ok

-- a number that says whether its own check applies is above 0 where it does
above_or_none : (n : ℕ) → (ltb 0 n || not (not (eqb n 0))) ≡ true
above_or_none zero = refl
above_or_none (suc n) = rw (lt-ltb 0 (suc n) (omega arith)) refl

-- so 0 is kept for a stream that is accepted
numbered : (choice measuring fixing : ℕ) → are_numbered (curve_checks choice measuring fixing) ≡ true
numbered choice measuring fixing = rw (above_or_none measuring, above_or_none fixing) refl

-- A stream and a choice.
module _ (choice : ℕ) (stream : List ℕ) where
  -- accepted as one strip, the stream gets the curve of that shot
  curve_lem : (measured opened stream).number ≡ 0 → (fixed_at_once choice stream).number ≡ 0
      → stream_curve choice stream ≡ record { number = 0; bytes = curve_bytes (fixed_at_once choice stream).shot.curve }
  curve_lem measures fixes =
      sym (fixing_told choice stream (fix_passed (measured opened stream).shot choice fixes).known (measured opened stream).shot
      (Ok (curve_bytes (fixed_at_once choice stream).shot.curve))
      (as_one_strip stream measures ∙ (λ i. record { shot = (measured opened stream).shot; number = measures i }))
      (fixes, refl))

  -- and where the stream is accepted, so is the one strip, by measuring and by fixing
  only_lem : (stream_curve choice stream).number ≡ 0 → ((measured opened stream).number ≡ 0) × ((fixed_at_once choice stream).number ≡ 0)
  unfolding stream_curve
  only_lem ok =
      let (_, (measuring, (fixing, _))) =
      none_applies (curve_checks choice (stream_measured stream).number (stream_fixed choice stream).number)
      (numbered choice (stream_measured stream).number (stream_fixed choice stream).number) ok in
      let measures = from_pieces stream (eqb-true _ _ (not-false _ measuring)) in (
        measures,
        ap (λ (a : Answer). (fixed_with a.shot choice).number) (sym (as_one_strip stream measures)) ∙ eqb-true _ _ (not-false _ fixing),
      )

  -- Where a stream of bytes is accepted,
  module _ (bytes : Bytes stream) (ok : (stream_curve choice stream).number ≡ 0) where
    -- the shot that measured it is fixed
    fixed_lem : (fixed_at_once choice stream).shot.fixed ≡ true
    fixed_lem =
        let (measures, fixes) = only_lem ok in
        ap (λ (a : Answer). a.shot.fixed)
        (fixed_is (measured opened stream).shot choice (stays_unfixed opened stream refl (opened_unfixed refl))
        (fix_passed (measured opened stream).shot choice fixes))

    -- its curve is a tone curve
    tone_curve_lem : IsToneCurve (fixed_at_once choice stream).shot.curve
    tone_curve_lem = (reachable_holds (by_fixing (by_measuring by_opening stream bytes) choice)).1.curve fixed_lem

    -- and the stream's bytes are the curve's
    bytes_are : (stream_curve choice stream).bytes ≡ curve_bytes (fixed_at_once choice stream).shot.curve
    bytes_are = ap (λ (told : StreamCurve). told.bytes) (curve_lem (only_lem ok).0 (only_lem ok).1)

    -- so they are 1,532,
    size_lem : length (stream_curve choice stream).bytes ≡ curve_length
    size_lem = omega (arith, ap length bytes_are, length_bytes (fixed_at_once choice stream).shot.curve, tone_curve_lem.size)

    -- and stand for a tone curve
    shape_lem : IsToneCurve (curve_entries (stream_curve choice stream).bytes)
    shape_lem =
        subst IsToneCurve (sym (ap curve_entries bytes_are ∙ read_back (fixed_at_once choice stream).shot.curve)) tone_curve_lem

pub streams_follow_shots : StreamsFollowShots
streams_follow_shots = record { curve = curve_lem; only = only_lem; size = size_lem; shape = shape_lem }
