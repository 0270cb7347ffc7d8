-- A stream beside the host's colour call and a shot's colouring, which take a source whole.
use Rattle.std.specs.Prelude.{◌≡◌}
use Rattle.settings.specs.Setting.{full}
use Rattle.dial.specs.Dial.{decoded, setting_of}
use Rattle.curve_bytes.specs.CurveBytes.{curve_bytes}
use Rattle.shot.specs.Reachable.{Reachable}
use Rattle.shot.specs.Shot.{ColourRequest, coloured}
use Rattle.shot.specs.declared.Shot.{Shot}
use Rattle.host.specs.Host.{ColourCall, colour_outcome}
use Rattle.stream_colouring.specs.StreamColour.{StreamColour, stream_colour}

-- What colouring a stream leaves that is the source of a host's call: at the full balance, as the host's call has it.
abbrev pub as_host : ColourCall → StreamColour
as_host c = stream_colour (record { curve = c.curve; method = c.method; setting = full; stream = c.source })

-- What it leaves for the source of a shot's colouring: by the shot's curve in its bytes, as the dial is decoded.
abbrev pub as_shot : Shot → ColourRequest → StreamColour
as_shot x q =
    stream_colour (record { curve = curve_bytes x.curve; method = q.method; setting = setting_of (decoded q.dial); stream = q.source })

-- Claim: a source that these calls accept is accepted as a stream, and coloured to the same bytes. Proved: proofs/Agreement.antt,
-- `streams_follow_calls`.
pub record StreamsFollowCalls : Type 0 where
  pub host : (c : ColourCall) → (colour_outcome c).number ≡ 0 → as_host c ≡ record { number = 0; bytes = (colour_outcome c).bytes }
  pub shot : (x : Shot) → Reachable x → (q : ColourRequest) → (coloured x q).answer.number ≡ 0
      → as_shot x q ≡ record { number = 0; bytes = (coloured x q).bytes }
