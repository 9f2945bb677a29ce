use Rattle.std.proofs.Common.{map}
use Rattle.std.proofs.lemmas.Result.{IfOk-weaker}
use Rattle.ips_due.specs.outstanding.Parts.{due_file}
use Rattle.ips_request_due.specs.RequestDue.{AreAccountFiles}
use Rattle.ips_plan.specs.image_plan.Between.{given}
use Rattle.ips_plan.specs.request_plan.Plans.{AreFiles}
use Rattle.ips_plan.proofs.request_plan.Proper.{proper_files}
use Rattle.ips_plan.proofs.request_plan.planning.ledger_of.Goals as goal

pub returns-clause-proper : goal.returns-clause-proper
returns-clause-proper g c =
    let around = given g.F.Source.outside g.S.Source.outside c.args.folder.now c.args.source.now c.args.between in
    IfOk-weaker c.ledger_behind.result (AreFiles around c.args.between) (λ files. AreAccountFiles (map due_file files.due.items))
    (proper_files c.due_files_are_proper.ensures.paths c.due_files_are_proper.ensures.modes around c.args.between c.requires.meant) c.ledger_behind.ensures.given
