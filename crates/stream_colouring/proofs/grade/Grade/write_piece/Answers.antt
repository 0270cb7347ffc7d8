-- `stream_colouring::Grade::write_piece` meets its contract: what is written are the piece's whole pixels, coloured.
use Rattle.std.proofs.Common.{refl}
use Rattle.stream_colouring.proofs.Streams.{piece_wrote, is_whole_lem, left_over}
use Rattle.stream_colouring.proofs.grade.Grade.write_piece.Goals as goal

pub returns-then-whole-piece : goal.returns-then-whole-piece
returns-then-whole-piece g c =
    rw c.from.ensures
    (refl, left_over c.args.piece.now c.if-whole-piece.true, piece_wrote c.args.self.now c.args.piece.now _ _ _ c.colour.ensures c.in-Ok.ensures.bytes)

pub returns : goal.returns
returns g c =
    (is_whole_lem c.args.piece.now c.if-whole-piece.false, piece_wrote c.args.self.now c.args.piece.now _ _ _ c.colour.ensures c.in-Ok.ensures.bytes)
