use Rattle.std.proofs.Common.{◌∙◌, ap, sym, subst}
use Rattle.std.specs.Prelude.{codes}
use Rattle.ips_action.specs.Action.{IsAction}
use Rattle.ips_conflict.specs.Key.{value_of}
use Rattle.ips_metafiles.specs.Records.{IsQuotedName}
use Rattle.ips_delivered.proofs.delivered.Picked.{legacy_named}
use Rattle.ips_delivered.proofs.delivered.named.legacy_name.Goals as goal

pub returns-clause-named : goal.returns-clause-named
returns-clause-named c =
    let a = c.args.item.now.action in
    subst IsQuotedName (sym (c.value.ensures.value ∙ ap (value_of (codes "pkg")) c.action.ensures)) (legacy_named a (subst IsAction c.action.ensures c.value.ensures.action) c.requires)
