use Rattle.std.proofs.Common.{Bor, List, ℕ, not, map, rules, ap, ◌∙◌}
use Rattle.std.proofs.lemmas.Fn.{filter_same}
use Rattle.ips_turnover.specs.Seen.{has_gone}
use Rattle.ips_turnover.proofs.Left.{seen_filter}
use Rattle.ips_turnover.proofs.gone.remove_gone_members.Goals as goal

pub returns : goal.returns
returns c =
    ap (map (λ (m : Bor (List ℕ)). m.now)) (filter_same _ (λ (m : Bor (List ℕ)). not (has_gone c.args.gone.now m.now)) _ (λ x b f k. search rules) _ _ c.retain.ensures.filtered)
    ∙ seen_filter (λ (m : Bor (List ℕ)). m.now) (λ (m : List ℕ). not (has_gone c.args.gone.now m)) c.args.members.now.items
