-- On each call `step` gives what the contract of the call's function says.
use mathlib.Core.Path.{refl}
use Rattle.book.specs.Run.{StepsFollowContracts}

pub steps_follow_contracts : StepsFollowContracts
steps_follow_contracts =
    record {
      opens = λ x. refl;
      measures = λ x strip. refl;
      fixes = λ x choice. refl;
      colours = λ x request. refl;
    }
