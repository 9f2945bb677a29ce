use Rattle.ips_load.specs.Fault.{IsBadText, IsMediatorsFile}
use Rattle.ips_load.proofs.Answered.{ok_both, bad_weaker}
use Rattle.ips_load.proofs.FileKinds.{ListsMediators, mediators_from, fault_like, bad_mediators}
use Rattle.ips_load.proofs.lists.load_mediators.Goals as goal

pub returns-clause-lawful : goal.returns-clause-lawful
returns-clause-lawful g c = ok_both c.load_list.result _ _ _ (λ items each chain. mediators_from items.items each chain) c.load_list.ensures.fits c.load_list.ensures.chain

pub returns-clause-fault : goal.returns-clause-fault
returns-clause-fault g c = λ told.
    bad_weaker c.load_list.result _ _ (λ f h. fault_like (IsBadText ListsMediators) (IsBadText IsMediatorsFile) bad_mediators (g.F.Source.outside.state c.args.folder.now).held c.args.path.now.bytes f h) (c.load_list.ensures.fault told)
