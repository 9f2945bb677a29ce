use Rattle.std.proofs.Common.{Bool, Err, sym, subst, ◌∙◌}
use Rattle.ips_text.specs.Reading.{IfBad}
use Rattle.ips_after.specs.Request.{Request}
use Rattle.ips_account_files.specs.Around.{AreMarks, IsSilentOver, around}
use Rattle.ips_account_files.specs.Behind.{BehindWhere}
use Rattle.ips_account_files.proofs.giving.account_files.Goals as goal

pub read_and_edit-requires-clause-marks : goal.read_and_edit-requires-clause-marks
read_and_edit-requires-clause-marks g c = subst (AreMarks c.args.rows.now c.args.settled.now) (sym c.deref.ensures.value) c.in-Ok.ensures.marks

pub returns-in-Ok-clause-refused : goal.returns-in-Ok-clause-refused
returns-in-Ok-clause-refused g c =
    let rows = c.args.rows.now in
    let s = c.args.settled.now in
    let a = around g.F.Source.outside g.S.Source.outside c.args.folder.now c.args.source.now c.args.publisher.now rows s in
    subst (λ (b : Bool). IfBad c.read_and_edit.result (λ why. (r : Request) → IsSilentOver a rows s r → BehindWhere b a r c.args.old.now c.args.new.now (Err why)))
    (sym (sym c.has_accounts.ensures ∙ c.if-not-has_accounts.false)) c.read_and_edit.ensures.refused
