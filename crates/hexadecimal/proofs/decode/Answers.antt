-- `hexadecimal::decode` meets its contract.
use Rattle.std.proofs.Common.{arith}
use Rattle.hexadecimal.proofs.Writing.{decoded_more, decoded_end}
use Rattle.hexadecimal.proofs.decode.Goals as goal

pub loop-i-preserved : goal.loop-i-preserved
loop-i-preserved c =
    rw (c.digit_value.ensures.0, c.digit_value-in-loop-i.ensures.0)
    (decoded_more _ c.loop-i.invariant c.as_chunks.ensures.front c.requires (omega (arith, c.as_chunks.ensures.front_len)))

pub returns : goal.returns
returns c = rw (c.as_chunks.ensures.front_len) (decoded_end _ c.loop-i.invariant (omega arith))
