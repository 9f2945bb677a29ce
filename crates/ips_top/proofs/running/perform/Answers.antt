use Rattle.std.proofs.Common.{refl, sym}
use Rattle.ips_showing.specs.Asked.{asked}
use Rattle.ips_top.specs.Runs as does
use Rattle.ips_top.proofs.Commands.{changes_so, tried_told}
use Rattle.ips_top.proofs.running.perform.Goals as goal

pub returns-in-Some-clause-does : goal.returns-in-Some-clause-does
returns-in-Some-clause-does g c = does.Shows (asked c.in-Some.showing) (sym c.in-Some.ensures) c.performed.ensures.performed

pub returns-in-Some-of-clause-does : goal.returns-in-Some-of-clause-does
returns-in-Some-of-clause-does g c = changes_so _ _ _ _ _ _ c.args.command.now c.args.moment _ c.in-Some-of.ensures c.performed-in-Some-of.ensures.performed

pub returns-in-Some-of-2-clause-does : goal.returns-in-Some-of-2-clause-does
returns-in-Some-of-2-clause-does g c = does.Creates _ (sym c.in-Some-of-2.ensures) c.performed-in-Some-of-2.ensures.performed

pub returns-in-Some-of-3-clause-does : goal.returns-in-Some-of-3-clause-does
returns-in-Some-of-3-clause-does g c = does.Fixes _ (sym c.in-Some-of-3.ensures) c.performed-in-Some-of-3.ensures.performed

pub returns-in-Gen-clause-does : goal.returns-in-Gen-clause-does
returns-in-Gen-clause-does g c =
    does.Tries c.in-Gen.number c.in-Gen.is (tried_told c.in-Gen.number _ _ c.generated.result c.finish.result.outcome c.generated.ensures c.finish.ensures.outcome)
    (record { folder = refl; source = refl; spawner = refl })
