-- Document 01: "Where no refusal applies, an empty strip is measured or coloured with no change."
use Rattle.std.specs.Prelude.{◌≡◌, true, false, [], ℕ}
use Rattle.pixel.specs.Methods.{is_method}
use Rattle.dial.specs.Dial.{decoded, refusal_of}
use Rattle.dial.specs.declared.Dial.{Dial}
use Rattle.shot.specs.Reachable.{Reachable}
use Rattle.shot.specs.Shot.{measured, coloured}
use Rattle.shot.specs.declared.Shot.{Shot}

-- Claim: such a measuring or colouring is accepted, hands back the shot as it is, and writes no byte.
-- Proved: proofs/Empty.antt, `empty_strips_change_nothing`.
pub record EmptyStripsChangeNothing : Type 0 where
  pub measuring : (x : Shot) → Reachable x → x.fixed ≡ false → measured x [] ≡ record { shot = x; number = 0 }
  pub colouring : (x : Shot) (method : ℕ) (dial : Dial) → x.fixed ≡ true → is_method method ≡ true → refusal_of (decoded dial) ≡ 0
      → coloured x (record { method = method; dial = dial; source = []; destination = [] })
      ≡ record { answer = record { shot = x; number = 0 }; bytes = [] }
