use Rattle.std.proofs.Common.{Bool, inr, subst}
use Rattle.ips_outside.specs.State.{State}
use Rattle.ips_files.specs.Files.{file_at}
use Rattle.ips_account_files.specs.ledger.Texts.{IsTextUnread}
use Rattle.ips_account_files.proofs.ledger.Answered.{fault_as}
use Rattle.ips_account_files.proofs.ledger.base.base_at.Goals as goal

pub returns-in-Err-clause-refused : goal.returns-in-Err-clause-refused
returns-in-Err-clause-refused g c =
    let o = g.F.Source.outside in
    let p = g.S.Source.outside in
    let q = c.args.path.now.bytes in
    let first = c.left_at.ensures.reads in
    let tells = p.tells c.args.source.now in
    let publisher = c.args.publisher.now in
    let repository = (p.state c.args.source.now).held in
    let left = c.in-Ok.left in
    fault_as c.in-Err.fault (IsTextUnread (o.tells c.left_at.new.folder) (file_at (o.state c.left_at.new.folder).held q) tells publisher repository left) _
    (λ why unread. inr (
      left,
      c.in-Ok.ensures.found,
      subst (λ (b : Bool). IsTextUnread b (file_at (o.state c.args.folder.now).held q) tells publisher repository left why) first.call.same_kind
          (subst (λ (u : State). IsTextUnread (o.tells c.left_at.new.folder) (file_at u.held q) tells publisher repository left why) first.kept unread),
    ))
    c.in-Err.ensures.refused
