use Rattle.std.proofs.Common.{◌≡◌, ◌∙◌, ap}
use Rattle.std.specs.Prelude.{Contains}
use Rattle.ips_action.specs.Attrs.{values_of}
use Rattle.ips_action.specs.Action.{Fields}
use Rattle.ips_actuate.specs.Gathering.{Lacks, Asks}
use Rattle.ips_actuate.proofs.Gathered.{if_grown, asks_are}
use Rattle.ips_actuate.proofs.services.add_asked_by.Goals as goal

pub returns : goal.returns
returns c =
    let a = c.args.action.now in
    let key = c.args.key.now in
    let lines = c.args.lines.now in
    let disabled = c.args.disabled.now in
    let texts = c.values.result in
    let set = c.args.set.now in
    let new = c.add_but.new.set in
    let are : texts ≡ values_of key a.attrs = c.values.ensures ∙ ap (λ (x : Fields). values_of key x.attrs) c.action.view_is in
    if_grown (λ text. Contains texts text × Lacks disabled text) (Asks key lines disabled a) set new c.add_but.result (asks_are key lines disabled set new a texts are (c.in_ok-lacks_line.ensures.0 c.if-not-branch.false)) c.add_but.ensures
