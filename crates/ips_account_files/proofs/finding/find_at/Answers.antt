use Rattle.std.proofs.Common.{Bool, ⊎_elim, inl, inr, sym, subst, ◌∙◌}
use Rattle.ips_outside.specs.State.{State}
use Rattle.ips_account_files.specs.ledger.Base.{IsBase, IsBaseUnread}
use Rattle.ips_account_files.proofs.ledger.Answered.{fault_as}
use Rattle.ips_account_files.proofs.finding.find_at.Goals as goal

pub returns-in-Ok-base_at-clause-found : goal.returns-in-Ok-base_at-clause-found
returns-in-Ok-base_at-clause-found g c = λ r silent.
    let o = g.F.Source.outside in
    let p = g.S.Source.outside in
    let t = (o.state c.args.folder.now).held in
    let rows = c.args.surveyed.rows.now in
    let s = c.args.surveyed.settled.now in
    let marks = c.args.surveyed.replaced.now in
    let q = c.args.path.now.bytes in
    let tells = p.tells c.args.source.now in
    let publisher = c.args.surveyed.publisher.now in
    let repository = (p.state c.args.source.now).held in
    let text = c.in-Ok-base_at.base.text.items in
    let mode = c.in-Ok-base_at.base.mode in
    let first = c.is_blocked.ensures.reads in
    let base = subst (λ (b : Bool). IsBase b t rows s marks q c.args.mode tells publisher repository text mode) first.call.same_kind
    (subst (λ (u : State). IsBase (o.tells c.is_blocked.new.source) u.held rows s marks q c.args.mode tells publisher repository text mode) first.kept c.in-Ok-base_at.ensures.base) in (
      record {
        free = c.if-elsewhere.false;
        wanted = c.in-Ok.ensures.wanted r silent.said silent.table c.if-blocked.false;
        seen = λ told. sym (c.in-Ok.ensures.found told r silent.said silent.table) ∙ c.if-blocked.false;
      },
      record {
        left = base.left;
        leaves = λ told. base.leaves told r silent.said silent.good silent.table silent.silent (silent.settles told) (c.requires.marks r t silent.said silent.good silent.table silent.silent (silent.settles told));
        reads = base.reads;
        gives = base.gives;
        within = c.in-Ok-base_at.ensures.within;
        small = λ few. c.in-Ok-base_at.ensures.small c.requires.small r silent.table.entries few;
      },
    )

pub returns-in-Err-clause-refused : goal.returns-in-Err-clause-refused
returns-in-Err-clause-refused g c =
    let o = g.F.Source.outside in
    let p = g.S.Source.outside in
    let t = (o.state c.args.folder.now).held in
    let rows = c.args.surveyed.rows.now in
    let s = c.args.surveyed.settled.now in
    let marks = c.args.surveyed.replaced.now in
    let q = c.args.path.now.bytes in
    let tells = p.tells c.args.source.now in
    let publisher = c.args.surveyed.publisher.now in
    let repository = (p.state c.args.source.now).held in
    let first = c.is_blocked.ensures.reads in
    fault_as c.in-Err.fault (IsBaseUnread (o.tells c.is_blocked.new.source) (o.state c.is_blocked.new.source).held rows s marks q tells publisher repository) _
    (λ why lost. λ r silent.
    ⊎_elim (λ failed. inl failed)
    (λ unread. inr (
      record {
        free = c.if-elsewhere.false;
        wanted = c.in-Ok.ensures.wanted r silent.said silent.table c.if-blocked.false;
        seen = λ told. sym (c.in-Ok.ensures.found told r silent.said silent.table) ∙ c.if-blocked.false;
      },
      (unread.0, (λ told. unread.1 told r silent.said silent.good silent.table silent.silent (silent.settles told) (c.requires.marks r t silent.said silent.good silent.table silent.silent (silent.settles told))), unread.2),
    ))
    (subst (λ (b : Bool). IsBaseUnread b t rows s marks q tells publisher repository why) first.call.same_kind
    (subst (λ (u : State). IsBaseUnread (o.tells c.is_blocked.new.source) u.held rows s marks q tells publisher repository why) first.kept lost)))
    c.in-Err.ensures.refused
