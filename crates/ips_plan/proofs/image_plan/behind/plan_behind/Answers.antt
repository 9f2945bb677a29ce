use Rattle.std.proofs.Common.{List, map, subst}
use Rattle.std.proofs.lemmas.Result.{IfOk-weaker}
use Rattle.ips_books.specs.Seen.{accounts as books_seen}
use Rattle.ips_due.specs.outstanding.Parts.{due_file}
use Rattle.ips_due.specs.declared.outstanding.due.AccountFile.{AccountFile}
use Rattle.ips_request_due.specs.RequestDue.{IsRequestDue}
use Rattle.ips_plan.specs.image_plan.Behind.{ComesOf, ComesOfDue, IsPlanned, IsPlannedOf}
use Rattle.ips_plan.proofs.image_plan.Beyond.{comes_behind}
use Rattle.ips_load.proofs.Answered.{bad_weaker}
use Rattle.ips_plan.proofs.image_plan.behind.plan_behind.Goals as goal

pub returns-in-Ok-clause-planned : goal.returns-in-Ok-clause-planned
returns-in-Ok-clause-planned g c =
    let told = g.F.Source.outside.tells c.args.folder.now in
    let t = (g.F.Source.outside.state c.args.folder.now).held in
    let b = c.args.between in
    let files = c.args.files.now in
    let due = c.in-Ok.due in
    IfOk-weaker c.plan_of.result (IsPlannedOf told t c.args.moment.now b due c.args.accept) (IsPlanned told t c.args.moment.now b (map due_file files.due.items) (books_seen files.books) c.args.accept)
    (λ p h. record {
      due = due;
      is_due = subst (λ (l : List AccountFile). IsRequestDue (map due_file l) (books_seen files.books) b.old.now b.new.now due) c.deref.ensures.value c.in-Ok.ensures.due;
      together = c.in-Ok.ensures.together;
      apart = c.in-Ok.ensures.apart;
      planned = h;
    }) c.plan_of.ensures.planned

pub returns-in-Ok-clause-refused : goal.returns-in-Ok-clause-refused
returns-in-Ok-clause-refused g c =
    let told = g.F.Source.outside.tells c.args.folder.now in
    let t = (g.F.Source.outside.state c.args.folder.now).held in
    let b = c.args.between in
    let files = c.args.files.now in
    let due = c.in-Ok.due in
    bad_weaker c.plan_of.result (ComesOfDue told t c.args.moment.now b due c.args.accept) (ComesOf told t c.args.moment.now b (map due_file files.due.items) (books_seen files.books) c.args.accept)
    (comes_behind told t c.args.moment.now b due c.args.accept (map due_file files.due.items) (books_seen files.books) (subst (λ (l : List AccountFile). IsRequestDue (map due_file l) (books_seen files.books) b.old.now b.new.now due) c.deref.ensures.value c.in-Ok.ensures.due) c.in-Ok.ensures.together c.in-Ok.ensures.apart)
    c.plan_of.ensures.refused
