use Rattle.std.proofs.Common.{ℕ, List, map, ap, subst, sym}
use Rattle.std.proofs.lemmas.Result.{IfOk-weaker}
use Rattle.std.specs.List.{AllByRecursion}
use Rattle.ips_fmri.specs.Name.{IsStem}
use Rattle.ips_records.specs.Lines.{lines_text}
use Rattle.ips_records.specs.Listed.{Chain}
use Rattle.ips_load.specs.Held.{Stands}
use Rattle.ips_state.specs.Lawful.{AreStems}
use Rattle.ips_load.specs.Fault.{IsBadText, IsFileFault, IsStemsFile}
use Rattle.ips_load.proofs.Answered.{ok_both, bad_weaker}
use Rattle.ips_state.proofs.Ordered.{IsBefore}
use Rattle.ips_load.proofs.FileKinds.{ListsStems, stems_from, same_list, fault_like, bad_stems}
use Rattle.ips_load.proofs.lists.load_stems.Goals as goal

pub returns-clause-lawful : goal.returns-clause-lawful
returns-clause-lawful g c = ok_both c.load_list.result _ _ _ (λ stems each chain. stems_from stems.items each chain) c.load_list.ensures.fits c.load_list.ensures.chain

pub returns-clause-found : goal.returns-clause-found
returns-clause-found g c = λ told.
    let t = (g.F.Source.outside.state c.args.folder.now).held in
    IfOk-weaker c.load_list.result _ _ (λ stems s. subst (λ (l : List (List ℕ)). Stands t c.args.path.now.bytes (lines_text l)) (same_list stems.items) s) (c.load_list.ensures.found told)

pub returns-clause-fault : goal.returns-clause-fault
returns-clause-fault g c = λ told.
    let t = (g.F.Source.outside.state c.args.folder.now).held in
    bad_weaker c.load_list.result _ _ (λ f h. fault_like (IsBadText ListsStems) (IsBadText IsStemsFile) bad_stems t c.args.path.now.bytes f h) (c.load_list.ensures.fault told)
