use Rattle.std.proofs.Common.{refl}
use Rattle.ips_trial.proofs.Trials.{done_finished}
use Rattle.ips_trial.proofs.trying.carry_out.Goals as goal

pub returns-in-Done-Done : goal.returns-in-Done-Done
returns-in-Done-Done g c =
    let x = c.in-Done-Done in
    done_finished _ _ _ _ _ _ _ _ _ (λ d is. c.requires.tells _ _ _ d is) x.field-0 x.counts x.steps x.field-0-2 c.number_of.result x.field-0-is c.number_of.ensures (x.ensures.comes refl)
