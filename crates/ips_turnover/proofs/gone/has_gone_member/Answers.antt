use Rattle.std.proofs.Common.{Bor, List, ℕ, rules, tests, ◌∙◌}
use Rattle.std.proofs.lemmas.Iterator.{YieldsList-from_slice}
use Rattle.std.proofs.lemmas.Iterator.Search.{any_from_yields_List}
use Rattle.ips_turnover.specs.Seen.{has_gone}
use Rattle.ips_turnover.proofs.Left.{seen_any}
use Rattle.ips_turnover.proofs.gone.has_gone_member.Goals as goal

pub returns : goal.returns
returns c =
    any_from_yields_List (λ (m : Bor (List ℕ)). has_gone c.args.gone.now m.now) _ _ c.any.result c.any.ensures.ran (YieldsList-from_slice c.args.members.now cc) (λ x b q k. search (rules, tests))
    ∙ seen_any (λ (m : Bor (List ℕ)). m.now) (has_gone c.args.gone.now) c.args.members.now
