use Rattle.std.proofs.Common.{Bor, List, ℕ, rules, tests, ◌∙◌}
use Rattle.std.proofs.lemmas.Iterator.{YieldsList-from_slice}
use Rattle.std.proofs.lemmas.Iterator.Search.{any_from_yields_List}
use Rattle.ips_action.specs.Attrs.{is_same}
use Rattle.ips_turnover.proofs.Left.{seen_any}
use Rattle.ips_accounts.proofs.groups.is_member.Goals as goal

pub returns : goal.returns
returns c =
    any_from_yields_List (λ (m : Bor (List ℕ)). is_same m.now c.args.user.now) _ _ c.any.result c.any.ensures.ran (YieldsList-from_slice c.args.members.now cc) (λ x b q k. search (rules, tests))
    ∙ seen_any (λ (m : Bor (List ℕ)). m.now) (λ (m : List ℕ). is_same m c.args.user.now) c.args.members.now
