-- The widths of a key for every pixel written (corollaries of demands 2 and 3, as `book`, `host`, `stream_colouring` and `still` state them).
use Rattle.std.specs.Prelude.{List, ℕ}
use Rattle.tables.specs.Table.{◌among◌}
use Rattle.pixel.specs.Strip.{Bytes}
use Rattle.colouring.specs.Written.{Written}
use Rattle.book.specs.Accuracy.{written as writtenInStep}
use Rattle.book.specs.Book.{Call}
use Rattle.book.specs.Run.{Step, trace, Occurs, WellFormed}
use Rattle.host.specs.Accuracy.{written as writtenByHost}
use Rattle.host.specs.Host.{ColourCall}
use Rattle.stream_colouring.specs.Accuracy.{written as writtenInStream}
use Rattle.stream_colouring.specs.StreamColour.{StreamCall}
use Rattle.still.specs.Agreement.{pixels_of_file}
use Rattle.still.specs.Still.{IsAccepted}
use Rattle.key.specs.Dial.{WidthsUnder}
use Rattle.key.specs.Widths.{BalanceWidths}

-- The pixel keeps the widths of its setting, by its own method and the curve's entry for its intensity.
abbrev pub WrittenWidths : Written → Type 0
WrittenWidths w = WidthsUnder w.setting w.method w.entry w.input w.output

-- The pixel keeps the widths of the full balance.
abbrev pub WrittenBalanceWidths : Written → Type 0
WrittenBalanceWidths w = BalanceWidths w.method w.entry w.input w.output

-- Claim: every pixel written in any list of calls, of which any may be refused, keeps the widths of its setting. Proved: proofs/Written.antt,
-- `calls_keep_widths`.
abbrev pub CallsKeepWidths : Type 0
CallsKeepWidths =
    (calls : List Call) → ((c : Call) → c among calls → WellFormed c)
    → (before : List Step) (t : Step) → Occurs (trace calls) before t → (w : Written) → w among writtenInStep t → WrittenWidths w

-- Claim: every pixel that a host colouring writes keeps the widths of the full balance. Proved: proofs/Written.antt, `host_keeps_widths`.
abbrev pub HostKeepsWidths : Type 0
HostKeepsWidths = (c : ColourCall) → Bytes c.source → (w : Written) → w among writtenByHost c → WrittenBalanceWidths w

-- Claim: every pixel written for an accepted file keeps the widths of the full balance. Proved: proofs/Written.antt, `files_keep_widths`.
abbrev pub FilesKeepWidths : Type 0
FilesKeepWidths =
    (file : List ℕ) → Bytes file → IsAccepted file → (w : Written) → w among pixels_of_file file → WrittenBalanceWidths w

-- Claim: every pixel that a colouring of a stream writes keeps the widths of its setting. Proved: proofs/Written.antt, `streams_keep_widths`.
abbrev pub StreamsKeepWidths : Type 0
StreamsKeepWidths = (c : StreamCall) → Bytes c.stream → (w : Written) → w among writtenInStream c → WrittenWidths w
