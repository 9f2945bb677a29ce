use Rattle.std.proofs.Common.{◌≡◌, ◌∙◌, ◌&&◌, List, ℕ, Bool, true, sym, ap}
use Rattle.std.specs.Prelude.{codes}
use Rattle.ips_action.specs.Attrs.{is_same}
use Rattle.ips_conflict.specs.Key.{value_of}
use Rattle.ips_delivered.specs.delivered.Delivering.{is_license}
use Rattle.ips_delivered.specs.new_licenses.New.{is_marked}
use Rattle.ips_delivered.proofs.new_licenses.marked.is_marked.Goals as goal

pub returns-then-is_license : goal.returns-then-is_license
returns-then-is_license c =
    let item = c.args.item.now in
    let key = c.args.key.now in
    let licensed : is_license item.action.kind ≡ true = sym (c.is_license.ensures ∙ ap is_license c.kind.ensures) ∙ c.if-is_license.true in
    c.eq.ensures ∙ ap (λ (v : List ℕ). is_same v (codes "true")) (c.value.ensures.value ∙ ap (value_of key) c.action.ensures) ∙ sym (ap (λ (b : Bool). b && is_marked key item) licensed)
