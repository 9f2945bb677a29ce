use Rattle.std.proofs.Common.{◌≡◌, false, sym, ◌∙◌, ap, subst}
use Rattle.std.specs.List.{AllByRecursion, flat_map}
use Rattle.ips_fmri.specs.Name.{IsPublisher, IsStem}
use Rattle.ips_outside.specs.Children.{path_bytes}
use Rattle.ips_manifest.specs.Manifest.{StandsOnLine}
use Rattle.ips_sends.specs.Whole.{content_of}
use Rattle.ips_sends.specs.Published.{fmri_text}
use Rattle.ips_sends.specs.Judged.{ways}
use Rattle.ips_prepare.specs.Prepared.{HasName, actions_of, actions_filled, contents_in, names_of}
use Rattle.ips_judged.proofs.Assembled.{names_all, names_are, content_named}
use Rattle.ips_judged.proofs.Ends.{of_prepared, in_any, prepared_of, named_as}
use Rattle.ips_judged.proofs.building.of_filled.Goals as goal

pub prepare-requires-clause-publisher : goal.prepare-requires-clause-publisher
prepare-requires-clause-publisher g c = subst IsPublisher (sym c.as_str.ensures) c.requires.asked.publisher

pub prepare-requires-clause-stem : goal.prepare-requires-clause-stem
prepare-requires-clause-stem g c = subst (IsStem false) (sym c.as_str-2.ensures) c.requires.asked.stem

pub of_prepared-requires-clause-names : goal.of_prepared-requires-clause-names
of_prepared-requires-clause-names g c = subst (AllByRecursion HasName) (sym c.in-Ok.ensures.contents) (names_all c.args.filled.items c.requires.entries)

pub of_prepared-requires-clause-contents : goal.of_prepared-requires-clause-contents
of_prepared-requires-clause-contents g c =
    let fmri = fmri_text c.as_str.result.now c.as_str-2.result.now c.args.asked.now.version in
    ap names_of c.in-Ok.ensures.contents ∙ names_are c.args.filled.items c.requires.entries ∙ sym (content_named fmri (actions_filled c.args.filled.items)) ∙ sym (ap (flat_map content_of) c.in-Ok.ensures.named)

pub returns-in-Ok-clause-publishes : goal.returns-in-Ok-clause-publishes
returns-in-Ok-clause-publishes g c = λ told proto taken.
    let a = c.args.asked.now in
    let actions = actions_of c.in-Ok.prepared.manifest.lines.items in
    let named = named_as a c.as_str.result.now c.as_str-2.result.now actions (actions_filled c.args.filled.items) c.as_str.ensures c.as_str-2.ensures c.in-Ok.ensures.named in
    c.of_prepared.ensures.publishes told proto (prepared_of proto (g.F.Source.outside.state c.args.target.now).held a c.args.repo.now.catalog c.args.filled.items actions named taken)

pub returns-in-Ok-clause-refused : goal.returns-in-Ok-clause-refused
returns-in-Ok-clause-refused g c = λ told proto taken.
    let a = c.args.asked.now in
    let actions = actions_of c.in-Ok.prepared.manifest.lines.items in
    let named = named_as a c.as_str.result.now c.as_str-2.result.now actions (actions_filled c.args.filled.items) c.as_str.ensures c.as_str-2.ensures c.in-Ok.ensures.named in
    c.of_prepared.ensures.refused told proto (prepared_of proto (g.F.Source.outside.state c.args.target.now).held a c.args.repo.now.catalog c.args.filled.items actions named taken)

pub returns-in-Ok-clause-stand : goal.returns-in-Ok-clause-stand
returns-in-Ok-clause-stand g c =
    of_prepared (λ p q. AllByRecursion StandsOnLine q.manifest.lines.items) c.of_prepared.result c.in-Ok.prepared c.of_prepared.ensures.same (in_any _ c.of_prepared.result c.in-Ok.ensures.stand)

pub returns-in-Ok-clause-contents : goal.returns-in-Ok-clause-contents
returns-in-Ok-clause-contents g c =
    let fmri = fmri_text c.as_str.result.now c.as_str-2.result.now c.args.asked.now.version in
    let listed : names_of c.in-Ok.prepared.contents.items ≡ flat_map content_of (actions_of c.in-Ok.prepared.manifest.lines.items) =
    ap names_of c.in-Ok.ensures.contents ∙ names_are c.args.filled.items c.requires.entries ∙ sym (content_named fmri (actions_filled c.args.filled.items)) ∙ sym (ap (flat_map content_of) c.in-Ok.ensures.named) in
    of_prepared (λ p q. names_of q.contents.items ≡ flat_map content_of (actions_of q.manifest.lines.items)) c.of_prepared.result c.in-Ok.prepared c.of_prepared.ensures.same (in_any _ c.of_prepared.result listed)

pub returns-in-Ok-clause-same : goal.returns-in-Ok-clause-same
returns-in-Ok-clause-same g c =
    of_prepared (λ p q. q.contents.items ≡ flat_map contents_in c.args.filled.items) c.of_prepared.result c.in-Ok.prepared c.of_prepared.ensures.same (in_any _ c.of_prepared.result c.in-Ok.ensures.contents)

pub returns-in-Ok-clause-ways : goal.returns-in-Ok-clause-ways
returns-in-Ok-clause-ways g c =
    of_prepared (λ p q. path_bytes p.ways.items ≡ ways c.args.asked.now.publisher c.args.asked.now.stem (names_of q.contents.items)) c.of_prepared.result c.in-Ok.prepared c.of_prepared.ensures.same c.of_prepared.ensures.ways
