use Rattle.std.proofs.Common.{◌≡◌, ◌∙◌, ap, codes}
use Rattle.std.specs.Prelude.{Contains}
use Rattle.ips_action.specs.Attrs.{values_of}
use Rattle.ips_action.specs.Action.{Fields}
use Rattle.ips_actuate.specs.Gathering.{Lacks, Disables}
use Rattle.ips_actuate.proofs.Gathered.{if_grown, disables_are}
use Rattle.ips_actuate.proofs.services.add_disabled.Goals as goal

pub returns : goal.returns
returns c =
    let a = c.args.action.now in
    let lines = c.args.standing.now.new_lines in
    let keys = c.args.standing.now.new_keys in
    let texts = c.values.result in
    let set = c.args.set.now in
    let new = c.add_but.new.set in
    let are : texts ≡ values_of (codes "disable_fmri") a.attrs = c.values.ensures ∙ ap (λ (x : Fields). values_of (codes "disable_fmri") x.attrs) c.action.view_is in
    if_grown (λ text. Contains texts text × Lacks c.new-none.result text) (Disables lines keys a) set new c.add_but.result
    (disables_are lines keys c.new-none.result set new a texts are c.new-none.ensures.empty (c.in_ok-lacks_line.ensures.0 c.if-not-branch.false) (c.in_ok-lacks_key.ensures.0 c.if-not-branch-2.false)) c.add_but.ensures
