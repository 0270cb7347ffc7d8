-- White space as text: where its text stands, `white_length` answers how long it is, and what `white_length` takes is such a text.
use Rattle.std.proofs.Common.{◌≡◌, ℕ, zero, suc, ◌+◌, ◌<◌, zero-le, suc-le-suc, Bool, true, false, List, [], ◌∷◌, ◌++◌, length, take, refl, sym, ap, subst, ◌∙◌, arith}
use mathlib.Core.List.{append_assoc, append-nil}
use mathlib.Core.Logic.{◌⊎◌, inl, inr, ⊎_elim}
use borrow.Author.Tests.{eqb-true}
use borrow.Table.Steps.{cases}
use lib.ListN.{length-append}
use lib.Seq.{length-take-le}
use Rattle.tables.specs.Table.{at}
use Rattle.text.specs.Decimal.{is_digit}
use Rattle.scanning.specs.Scanning.{is_space, starts_comment, ends_comment, run_length}
use Rattle.scanning.proofs.Runs.{run_none}
use Rattle.netpbm.specs.Header.{white_length}
use Rattle.netpbm.specs.Grammar.{Comment, Piece, Piece.space, Piece.comment, WhiteSpace, WhiteSpace.one, WhiteSpace.more, Numeral}
use Rattle.netpbm.proofs.Bytes.{digit_no_space, digit_no_comment, space_no_digit}
use Rattle.netpbm.proofs.WhiteSpace.{comment_no_space}

-- one white-space byte is white space
pub one_space : (b : ℕ) → is_space b ≡ true → WhiteSpace (b ∷ [])
one_space b e = one (space e)

-- A comment's text is read up to its end, and a piece of white space is, and all of it.
line_read : (text : List ℕ) (last : ℕ) (rest : List ℕ) → ((i : ℕ) → i < length text → ends_comment (at text i) ≡ false) → ends_comment last ≡ true
    → white_length true (text ++ (last ∷ rest)) ≡ length text + 1 + white_length false rest
unfolding white_length
line_read [] last rest inside ends = rw ends (omega arith)
line_read (b ∷ text) last rest inside ends =
    rw (inside 0 (suc-le-suc zero-le)) (omega (arith, line_read text last rest (λ i less. inside (suc i) (suc-le-suc less)) ends))

comment_read : {bytes : List ℕ} → (c : Comment bytes) → (rest : List ℕ)
    → white_length false (c.first ∷ (c.text ++ (c.last ∷ rest))) ≡ suc (length c.text + 1 + white_length false rest)
unfolding white_length
comment_read c rest =
    rw (comment_no_space c.first c.starts, c.starts) (omega (arith, line_read c.text c.last rest c.inside c.ends))

piece_read : {piece : List ℕ} → Piece piece → (rest : List ℕ) → white_length false (piece ++ rest) ≡ length piece + white_length false rest
unfolding white_length
piece_read (space {b} e) rest = rw e (omega arith)
piece_read (comment {bytes} c) rest =
    ap (λ (l : List ℕ). white_length false (l ++ rest)) c.split
    ∙ ap (λ (l : List ℕ). white_length false (c.first ∷ l)) (append_assoc c.text (c.last ∷ []) rest)
    ∙ omega (arith, comment_read c rest, ap length c.split, length-append c.text (c.last ∷ []))

pub white_read : {gap : List ℕ} → WhiteSpace gap → (rest : List ℕ) → white_length false (gap ++ rest) ≡ length gap + white_length false rest
white_read (one piece) rest = piece_read piece rest
white_read (more {piece = front} {rest = others} piece white) rest =
    ap (white_length false) (append_assoc front others rest)
    ∙ omega (arith, piece_read piece (others ++ rest), white_read white rest, length-append front others)

-- White space is not empty, and its first byte is no digit.
record Begins (bytes : List ℕ) : Type 0 where
  pub some : 0 < length bytes
  pub other : is_digit (at bytes 0) ≡ false

piece_begins : {piece : List ℕ} → Piece piece → Begins piece
piece_begins (space {b} e) = record { some = omega arith; other = space_no_digit b e }
piece_begins (comment c) = rw c.split (record { some = omega arith; other = rw (eqb-true c.first 35 c.starts) refl })

append_begins : (front rest : List ℕ) → Begins front → Begins (front ++ rest)
append_begins [] rest begins = absurd (omega (arith, begins.some))
append_begins (b ∷ front) rest begins = record { some = omega arith; other = begins.other }

white_begins : {gap : List ℕ} → WhiteSpace gap → Begins gap
white_begins (one piece) = piece_begins piece
white_begins (more {piece = front} {rest = others} piece white) = append_begins front others (piece_begins piece)

pub white_some : {gap : List ℕ} → WhiteSpace gap → 0 < length gap
white_some white = (white_begins white).some

-- so it ends the digits before it
pub white_stops : {gap : List ℕ} → WhiteSpace gap → (rest : List ℕ) → run_length is_digit (gap ++ rest) ≡ 0
white_stops {gap} white rest = run_none is_digit gap rest (white_some white) (white_begins white).other

-- and a numeral ends the white space before it
digit_stops : (digits rest : List ℕ) → 0 < length digits → is_digit (at digits 0) ≡ true → white_length false (digits ++ rest) ≡ 0
unfolding white_length
digit_stops [] rest some digit = absurd (omega arith)
digit_stops (b ∷ digits) rest some digit = rw (digit_no_space b digit, digit_no_comment b digit) refl

pub numeral_stops : {digits : List ℕ} → Numeral digits → (rest : List ℕ) → white_length false (digits ++ rest) ≡ 0
numeral_stops {digits} numeral rest = digit_stops digits rest numeral.some (numeral.digits 0 numeral.some)

-- White space, or nothing.
abbrev Gap : List ℕ → Type 0
Gap bytes = (bytes ≡ []) ⊎ WhiteSpace bytes

joined : {piece rest : List ℕ} → Piece piece → Gap rest → WhiteSpace (piece ++ rest)
joined piece (inl none) = rw (none, append-nil) (one piece)
joined piece (inr white) = more piece white

-- The rest of a comment's line, and what follows it.
record Line (bytes : List ℕ) : Type 0 where
  pub text : List ℕ
  pub last : ℕ
  pub rest : List ℕ
  pub inside : (i : ℕ) → i < length text → ends_comment (at text i) ≡ false
  pub ends : ends_comment last ≡ true
  pub gap : Gap rest
  pub split : bytes ≡ text ++ (last ∷ rest)

-- white space, or the rest of a line, where it was read from
abbrev Found : Bool → List ℕ → Type 0
Found false bytes = Gap bytes
Found true bytes = Line bytes

-- a line's end, and a byte within a line, before what was found
line_ends : (b : ℕ) (rest : List ℕ) → ends_comment b ≡ true → Gap rest → Line (b ∷ rest)
line_ends b rest ends gap = record {
  text = [];
  last = b;
  rest = rest;
  inside = λ i less. absurd (omega arith);
  ends = ends;
  gap = gap;
  split = refl;
}

line_goes_on : (b : ℕ) (bytes : List ℕ) → ends_comment b ≡ false → Line bytes → Line (b ∷ bytes)
line_goes_on b bytes goes_on line = record {
  text = b ∷ line.text;
  last = line.last;
  rest = line.rest;
  inside = inside;
  ends = line.ends;
  gap = line.gap;
  split = ap (λ (l : List ℕ). b ∷ l) line.split;
}
  where
    inside : (i : ℕ) → i < length (b ∷ line.text) → ends_comment (at (b ∷ line.text) i) ≡ false
    inside zero less = goes_on
    inside (suc i) less = line.inside i (omega arith)

-- a comment, and what follows it
comment_found : (b : ℕ) (bytes : List ℕ) → starts_comment b ≡ true → Line bytes → WhiteSpace (b ∷ bytes)
comment_found b bytes starts line =
    let made : WhiteSpace ((b ∷ (line.text ++ (line.last ∷ []))) ++ line.rest) =
    joined
    (comment (record { first = b; text = line.text; last = line.last; starts = starts; inside = line.inside; ends = line.ends; split = refl }))
    line.gap in
    subst WhiteSpace (ap (λ (l : List ℕ). b ∷ l) (append_assoc line.text (line.last ∷ []) line.rest ∙ sym line.split)) made

-- What `white_length` takes, where something follows it, is white space.
found : (within : Bool) (bytes : List ℕ) → white_length within bytes < length bytes → Found within (take (white_length within bytes) bytes)
unfolding white_length
found false [] less = absurd (omega arith)
found true [] less = absurd (omega arith)
found false (b ∷ bytes) less =
    cases (is_space b)
    (λ e. rw e (inr (joined (space e) (found false bytes (omega (arith, rw e at less))))))
    (λ e.
    cases (starts_comment b)
    (λ h. rw (e, h) (inr (comment_found b _ h (found true bytes (omega (arith, rw (e, h) at less))))))
    (λ h. rw (e, h) (inl refl)))
found true (b ∷ bytes) less =
    cases (ends_comment b)
    (λ e. rw e (line_ends b _ e (found false bytes (omega (arith, rw e at less)))))
    (λ e. rw e (line_goes_on b _ e (found true bytes (omega (arith, rw e at less)))))

pub white_found : (bytes : List ℕ) → 0 < white_length false bytes → white_length false bytes < length bytes
    → WhiteSpace (take (white_length false bytes) bytes)
white_found bytes some less =
    ⊎_elim
    (λ (none : take (white_length false bytes) bytes ≡ []). absurd (omega (arith, ap length none, length-take-le (white_length false bytes) bytes (omega arith))))
    (λ (white : WhiteSpace (take (white_length false bytes) bytes)). white)
    (found false bytes less)
