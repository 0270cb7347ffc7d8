-- White space with comments: how reading it goes on, run by run.
use Rattle.std.proofs.Common.{◌≡◌, ℕ, ◌+◌, ◌≤◌, ◌<◌, Bool, true, false, not, List, [], ◌∷◌, length, drop, refl, sym, ap, ◌∙◌, arith}
use Rattle.std.proofs.lemmas.Bool.Decides.{nat_tests}
use mathlib.Core.Bool.{false≢true}
use borrow.Author.Tests.{eqb-true}
use borrow.Table.Steps.{cases}
use lib.Seq.{drop-drop, get_or-drop}
use Rattle.tables.specs.Table.{at}
use Rattle.scanning.specs.Scanning.{is_space, starts_comment, ends_comment, in_class, run_length}
use Rattle.scanning.specs.declared.Class.TheVariants.{Comment as CommentByte}
use Rattle.scanning.proofs.Runs.{run_stops}
use Rattle.netpbm.specs.Header.{white_length}

-- what ends a comment is white space
end_is_space : (b : ℕ) → ends_comment b ≡ true → is_space b ≡ true
end_is_space b ends = grind (arith, nat_tests)

-- what begins one is none, and does not end one
pub comment_no_space : (b : ℕ) → starts_comment b ≡ true → is_space b ≡ false
comment_no_space b starts = rw (eqb-true b 35 starts) refl

comment_goes_on : (b : ℕ) → starts_comment b ≡ true → ends_comment b ≡ false
comment_goes_on b starts = rw (eqb-true b 35 starts) refl

-- white space lies within the bytes
pub white_within : (inside : Bool) (bytes : List ℕ) → white_length inside bytes ≤ length bytes
unfolding white_length
white_within inside [] = omega arith
white_within true (b ∷ bytes) = omega (arith, white_within (not (ends_comment b)) bytes)
white_within false (b ∷ bytes) =
    cases (is_space b) (λ e. rw e (omega (arith, white_within false bytes)))
    (λ e. cases (starts_comment b) (λ h. rw (e, h) (omega (arith, white_within true bytes))) (λ h. rw (e, h) (omega arith)))

-- a run of white space goes before what stands after it
pub white_spaces : (bytes : List ℕ) → let n = run_length is_space bytes in white_length false bytes ≡ n + white_length false (drop n bytes)
unfolding run_length white_length
white_spaces [] = refl
white_spaces (b ∷ bytes) =
    cases (is_space b) (λ e. rw e (omega (arith, white_spaces bytes))) (λ e. rw (e, e) (omega arith))

-- and so does the rest of a comment's line
white_line : (bytes : List ℕ) → let n = run_length (in_class CommentByte) bytes in white_length true bytes ≡ n + white_length false (drop n bytes)
unfolding run_length white_length
white_line [] = refl
white_line (b ∷ bytes) =
    cases (ends_comment b) (λ e. rw (e, end_is_space b e) (omega arith)) (λ e. rw e (omega (arith, white_line bytes)))

-- so that a comment goes before what stands after its line
white_comment : (bytes : List ℕ) → starts_comment (at bytes 0) ≡ true
    → let n = run_length (in_class CommentByte) bytes in (0 < n) × (white_length false bytes ≡ n + white_length false (drop n bytes))
unfolding run_length white_length
white_comment [] hash = absurd (false≢true hash)
white_comment (b ∷ bytes) hash =
    rw (comment_no_space b hash, hash, comment_goes_on b hash) (omega arith, omega (arith, white_line bytes))

-- there is none where no byte of it and no comment stands
pub white_none : (bytes : List ℕ) → run_length is_space bytes ≡ 0 → starts_comment (at bytes 0) ≡ false → white_length false bytes ≡ 0
unfolding run_length white_length
white_none [] stops other = refl
white_none (b ∷ bytes) stops other =
    cases (is_space b) (λ e. absurd (omega (arith, rw e at stops))) (λ e. rw (e, other) refl)

-- The white space that begins at `place` goes on at `end`, after a run of white-space bytes.
pub record LeftAt (bytes : List ℕ) (place end : ℕ) : Type 0 where
  pub left : place + white_length false (drop place bytes) ≡ end + white_length false (drop end bytes)
  pub stops : run_length is_space (drop end bytes) ≡ 0

-- it does after the first run
pub left_first : (bytes : List ℕ) (place end : ℕ) → end ≡ place + run_length is_space (drop place bytes) → LeftAt bytes place end
left_first bytes place end is =
    let n = run_length is_space (drop place bytes) in
    rw is (record {
      left = omega (arith, white_spaces (drop place bytes), ap (white_length false) (drop-drop n place bytes));
      stops = ap (run_length is_space) (sym (drop-drop n place bytes)) ∙ run_stops is_space (drop place bytes);
    })

-- what stands first after a place is what stands there
first_at_place : (bytes : List ℕ) (place : ℕ) → at (drop place bytes) 0 ≡ at bytes place
first_at_place bytes place = get_or-drop place bytes 0 0 ∙ ap (λ (i : ℕ). at bytes i) (omega arith)

-- A comment, and the end of its line.
module _ (bytes : List ℕ) (end line_end : ℕ) (hash : starts_comment (at bytes end) ≡ true)
    (is_line : line_end ≡ end + run_length (in_class CommentByte) (drop end bytes)) where
  abbrev line : ℕ
  line = run_length (in_class CommentByte) (drop end bytes)

  left_line : (0 < line) × (white_length false (drop end bytes) ≡ line + white_length false (drop line (drop end bytes)))
  left_line = white_comment (drop end bytes) (ap starts_comment (first_at_place bytes end) ∙ hash)

  pub line_goes_on : end < line_end
  line_goes_on = omega (arith, left_line.0, is_line)

  -- the white space left goes on there, after a run of white-space bytes
  pub left_more : (place next : ℕ) → LeftAt bytes place end → next ≡ line_end + run_length is_space (drop line_end bytes) → LeftAt bytes place next
  left_more place next so_far is_next =
      let more = left_first bytes line_end next is_next in
      record {
        left = omega (
          arith,
          so_far.left,
          left_line.1,
          ap (white_length false) (drop-drop line end bytes),
          ap (λ (p : ℕ). white_length false (drop p bytes)) is_line,
          is_line,
          more.left,
        );
        stops = more.stops;
      }

-- Where no comment begins, there is no more.
pub left_none : (bytes : List ℕ) (place end : ℕ) → LeftAt bytes place end → starts_comment (at bytes end) ≡ false
    → end ≡ place + white_length false (drop place bytes)
left_none bytes place end so_far other =
    omega (arith, so_far.left, white_none (drop end bytes) so_far.stops (ap starts_comment (first_at_place bytes end) ∙ other))
