use Rattle.std.proofs.Common.{◌∙◌, ℕ, List, not, ap, rules}
use Rattle.std.proofs.lemmas.Fn.{filter_same}
use Rattle.ips_request.specs.Stems.{has, stems_of}
use Rattle.ips_asked.proofs.Stems.{filter_alike}
use Rattle.ips_asked.proofs.removing.remove_stems.Goals as goal

pub returns : goal.returns
returns c =
    let kept = λ (stem : List ℕ). not (has stem (stems_of c.in_ok-gone.gone.keys)) in
    filter_same _ kept _ (λ x b f k. search rules) _ _ c.retain.ensures.filtered
    ∙ filter_alike kept (λ stem. not (has stem c.args.stems.now)) c.args.items.now.items (λ stem. ap not (c.in_ok-gone.ensures stem))
