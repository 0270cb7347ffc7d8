-- Laws of text written into a run.
use Rattle.std.proofs.Common.{◌≡◌, ℕ, suc, ◌+◌, ◌-◌, ◌≤◌, ◌<◌, List, [], ◌∷◌, ◌++◌, length, take, drop, refl, sym, ap, ◌∙◌, append_assoc, add-one, arith, length-append}
use Rattle.std.proofs.lemmas.List.Edits.{paste_none, length-paste, paste-paste}
use lib.ListN.{set}
use lib.Seq.{take-length, take_at, append_snoc, set_split, paste}
use borrow.Rule.Slice.PartMut.{put_mid, post_of, Post-is}
use Rattle.text.specs.Text.{written_at, Writes, Wrote}
use Rattle.text.specs.declared.Writer.{Writer}

-- what std calls the text pasted over the run
written_is : (place : ℕ) (text run : List ℕ) → written_at place text run ≡ paste run place text (length text)
written_is place text run = ap (λ (t : List ℕ). take place run ++ t ++ drop (place + length text) run) (sym (take-length text))

pub length_written : (place : ℕ) (text run : List ℕ) → place + length text ≤ length run → length (written_at place text run) ≡ length run
length_written place text run fits = ap length (written_is place text run) ∙ length-paste run place text (length text) fits (omega arith)

-- text, and then more text after it, is the joined text
written_more : (place : ℕ) (text more run : List ℕ) → place ≤ length run
    → written_at (place + length text) more (written_at place text run) ≡ written_at place (text ++ more) run
written_more place text more run fits =
    ap (written_at (place + length text) more) (written_is place text run)
    ∙ written_is (place + length text) more (paste run place text (length text))
    ∙ paste-paste run place text more (length text) (length more) refl refl fits
    ∙ ap (paste run place (text ++ more)) (sym (length-append text more))
    ∙ sym (written_is place (text ++ more) run)

-- so far, no text is written
writes_none : (place : ℕ) (run : List ℕ) → Writes place [] run place run
writes_none place run = record { ends = omega arith; holds = paste_none run place [] }

-- a byte stored is a text of one byte
stored : (place byte : ℕ) (run : List ℕ) → place < length run → Writes place (byte ∷ []) run (place + 1) (set run place byte)
stored place byte run room = record {
  ends = refl;
  holds =
      set_split run place byte room
      ∙ sym (append_snoc (take place run) byte (drop (suc place) run))
      ∙ ap (λ (n : ℕ). take place run ++ (byte ∷ []) ++ drop n run) (sym (add-one place));
}

-- Pieces of text, written one after the other.
module _ {place end : ℕ} {text run output : List ℕ} (wrote : Writes place text run end output) where
  pub writes_length : end ≤ length run → length output ≡ length run
  writes_length fits = ap length wrote.holds ∙ length_written place text run (omega (arith, wrote.ends))

  -- so there is room after the text for n bytes more
  pub writes_room : (n : ℕ) → end + n ≤ length run → end + n ≤ length output
  writes_room n fits = omega (arith, fits, writes_length (omega (arith, fits)))

  pub writes_more : {more : List ℕ} {next : ℕ} {output' : List ℕ} → place ≤ length run → Writes end more output next output'
      → Writes place (text ++ more) run next output'
  writes_more {more} fits wrote' = record {
    ends = omega (arith, length-append text more, wrote.ends, wrote'.ends);
    holds = rw (wrote'.holds, wrote.holds, wrote.ends) (written_more place text more run fits);
  }

  -- a byte stored after the text
  pub writes_byte : (byte : ℕ) → end < length run → Writes place (text ++ (byte ∷ [])) run (end + 1) (set output end byte)
  writes_byte byte room = writes_more (omega (arith, wrote.ends)) (stored end byte output (omega (arith, writes_length (omega arith))))

-- text at the start of a run is the run's front
pub writes_front : {end : ℕ} {text run output : List ℕ} → Writes 0 text run end output → take end output ≡ text
writes_front {end} {text} {run} wrote =
    ap (take end) wrote.holds ∙ take_at text (drop (0 + length text) run) end (omega (arith, wrote.ends))

-- a part of the run, written over by a piece as long as it is
pub part_writes : (first end : ℕ) (piece run : List ℕ) → first ≤ end → length piece ≡ end - first
    → Writes first piece run end (put_mid first (end - first) run piece)
part_writes first end piece run le size = let last : end ≡ first + length piece = omega (arith, size) in record {
  ends = last;
  holds =
      sym (append_assoc (take first run) piece (post_of first (end - first) run))
      ∙ ap (λ (rest : List ℕ). take first run ++ piece ++ rest) (Post-is first end run le)
      ∙ ap (λ (n : ℕ). take first run ++ piece ++ drop n run) last;
}

-- A writer writes one text after the other.
pub wrote_none : (writer : Writer) → Wrote [] writer writer
wrote_none writer = record { same_run = refl; same_length = refl; writes = writes_none writer.end writer.run.now }

pub wrote_more : {start now then : Writer} {text more : List ℕ} → start.end ≤ length start.run.now → Wrote text start now → Wrote more now then
    → Wrote (text ++ more) start then
wrote_more within wrote wrote' = record {
  same_run = wrote'.same_run ∙ wrote.same_run;
  same_length = wrote'.same_length ∙ wrote.same_length;
  writes = writes_more wrote.writes within wrote'.writes;
}

-- What is written from the start of a run stands at its front.
pub wrote_all : {text before after : List ℕ} {start now : Writer} → Wrote text start now → start.end ≡ 0 → start.run.now ≡ before
    → now.run.now ≡ after → Writes 0 text before now.end after
wrote_all wrote none held left = rw (← none, ← held, ← left) wrote.writes
