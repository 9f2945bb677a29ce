use Rattle.ips_request.proofs.Results.{ok_also}
use Rattle.ips_next.proofs.Comparing.{refused}
use Rattle.ips_next.proofs.Same.{alike_lists, unchanged}
use Rattle.ips_next.proofs.unchanged.is_unchanged.Goals as goal

pub returns-then-not-same_lists : goal.returns-then-not-same_lists
returns-then-not-same_lists c = refused c.same_lists.result c.if-not-same_lists.true (λ u. c.same_lists.ensures.1 (alike_lists c.args.old.now c.args.new.now u))

pub returns : goal.returns
returns c =
    let old = c.args.old.now in
    let new = c.args.new.now in
    let lists = c.same_lists.ensures.0 c.if-not-same_lists.false in
    let settings = c.in_ok-same_settings.ensures.0 c.if-not-branch.false in
    ok_also c.same_index.result _ _ c.same_index.ensures (λ same h. (λ t. unchanged old new lists settings (h.0 t), λ u. h.1 u.index))
