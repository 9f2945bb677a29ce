use Rattle.std.proofs.Common.{ℕ, List, map, ap, subst, sym}
use Rattle.std.proofs.lemmas.Result.{IfOk-weaker}
use Rattle.ips_records.specs.Lines.{lines_text}
use Rattle.ips_load.specs.Held.{Stands}
use Rattle.ips_load.specs.Fault.{IsBadText, IsFileFault, IsHistoryFile}
use Rattle.ips_load.proofs.Answered.{bad_weaker}
use Rattle.ips_load.proofs.FileKinds.{ListsRequests, same_list, fault_like, bad_history}
use Rattle.ips_load.proofs.lists.load_history.Goals as goal

pub returns-clause-found : goal.returns-clause-found
returns-clause-found g c = λ told.
    let t = (g.F.Source.outside.state c.args.folder.now).held in
    IfOk-weaker c.load_list.result _ _ (λ stems s. subst (λ (l : List (List ℕ)). Stands t c.args.path.now.bytes (lines_text l)) (same_list stems.items) s) (c.load_list.ensures.found told)

pub returns-clause-fault : goal.returns-clause-fault
returns-clause-fault g c = λ told.
    let t = (g.F.Source.outside.state c.args.folder.now).held in
    bad_weaker c.load_list.result _ _ (λ f h. fault_like (IsBadText ListsRequests) (IsBadText IsHistoryFile) bad_history t c.args.path.now.bytes f h) (c.load_list.ensures.fault told)
