use Rattle.std.proofs.Common.{◌≡◌, ◌∷◌, [], rules, ◌∙◌}
use Rattle.std.specs.Fmt.{decimal}
use Rattle.std.specs.List.{join_with_byte}
use Rattle.std.proofs.lemmas.Result.{IfOk-weaker}
use Rattle.ips_accounts.proofs.groups.group_text.Goals as goal

pub returns : goal.returns
returns c =
    let gid : c.as_bytes-3.result.now ≡ decimal c.args.gid = search rules in
    let none : c.as_bytes-2.result.now ≡ [] = c.as_bytes-2.ensures.value in
    let name = c.as_bytes.ensures.value in
    let members = c.standing_members-members.ensures in
    IfOk-weaker c.join.result _ _ (λ v e. e ∙ (λ i. join_with_byte 58 (name i ∷ none i ∷ gid i ∷ members i ∷ []))) c.join.ensures
