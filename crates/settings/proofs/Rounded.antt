-- Demand 2 under each setting.
use mathlib.Core.Path.{refl, sym, subst}
use Rattle.pixel.specs.Move.{sample, moved}
use Rattle.pixel.specs.Paper.{Rounds, exact_sample}
use Rattle.pixel.specs.declared.Pixel.{Pixel}
use Rattle.pixel.proofs.Paper.{moves_round_the_paper}
use Rattle.settings.specs.Setting.{mixed, SettingsRoundThePaper}
use Rattle.settings.specs.declared.Setting.TheVariants.{Off, Mix, Hold}
use Rattle.settings.proofs.Mixing.{sample_mixed, mixed_full}

pub settings_round_the_paper : SettingsRoundThePaper
unfolding mixed
settings_round_the_paper Off m p f ok bytes le = refl
settings_round_the_paper (Mix k) m p f ok bytes le =
    record {
      balance = moved m p f;
      rounded = λ a. moves_round_the_paper m p f a bytes le;
      floor = λ a. sample_mixed k p (moved m p f) a;
      at_one = λ e a.
          subst (λ (q : Pixel). Rounds (sample q a) (exact_sample m p f a)) (sym (mixed_full k p (moved m p f) e))
          (moves_round_the_paper m p f a bytes le);
    }
settings_round_the_paper (Hold v) m p f ok bytes le = λ a. moves_round_the_paper m p v a bytes ok
