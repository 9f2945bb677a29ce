use Rattle.std.proofs.Common.{refl, sym, subst}
use Rattle.std.proofs.lemmas.Option.{slice_get_read}
use Rattle.ips_actuate.specs.declared.running.ActFault.{ActFault}
use Rattle.ips_actuate.specs.Running.{IsFaultOfRun}
use Rattle.ips_run.specs.declared.ending.Ending.TheVariants as ending
use Rattle.ips_run.specs.Phases.{IsUnrun, Failed, Spawn}
use Rattle.ips_run.proofs.carrying.unrun.Goals as goal

pub returns-in-Failed : goal.returns-in-Failed
returns-in-Failed g c =
    let list = c.args.list.now.items in
    let within = (subst (λ (w : ActFault). IsFaultOfRun list w) c.in-Failed.is c.requires).0 in
    subst (λ (w : ActFault). IsUnrun list c.args.after w (ending.ActuatorFailed c.args.after c.swap_remove.result c.in-Failed.status)) (sym c.in-Failed.is)
    (Failed (slice_get_read list _ c.in-Failed.index c.swap_remove.result refl within c.swap_remove.ensures.value))

pub returns-in-Spawn : goal.returns-in-Spawn
returns-in-Spawn g c = subst (λ (w : ActFault). IsUnrun c.args.list.now.items c.args.after w (ending.SpawnFault c.args.after)) (sym c.in-Spawn.is) Spawn
