use Rattle.std.proofs.Common.{List, ap, ◌∙◌}
use Rattle.ips_rule.specs.declared.line.RuleLine.{RuleLine}
use Rattle.ips_transform.specs.Output.{left_of}
use Rattle.ips_mogrify.proofs.Making.{makes, left_sound}
use Rattle.ips_mogrify.proofs.judging.judged.Goals as goal

pub known_results-requires : goal.known_results-requires
known_results-requires c =
    left_sound c.args.rules.now c.args.manifest.now c.in_ok-rules.rules.items c.in_ok-manifest.manifest.lines.items c.in_ok-left.left.items c.in_ok-rules.ensures.rules c.in_ok-manifest.ensures.stand
    (c.in_ok-left.ensures ∙ ap (λ (l : List RuleLine). left_of l c.in_ok-manifest.manifest.lines.items) c.deref.ensures.value)

pub returns-clause-found : goal.returns-clause-found
returns-clause-found c =
    makes c.manifests_read_back.ensures.back c.args.rules.now c.args.manifest.now c.in_ok-text.text c.in_ok-rules.rules.items c.in_ok-manifest.manifest.lines.items c.in_ok-results.results.lines.items c.in_ok-left.left.items
    (record { are_rules = c.in_ok-rules.ensures.rules; patterns = c.in_ok-rules.ensures.patterns; is_manifest = c.in_ok-manifest.ensures.found })
    (c.in_ok-left.ensures ∙ ap (λ (l : List RuleLine). left_of l c.in_ok-manifest.manifest.lines.items) c.deref.ensures.value) c.in_ok-results.ensures.found c.in_ok-text.ensures
