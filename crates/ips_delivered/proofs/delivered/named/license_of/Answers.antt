use Rattle.std.proofs.Common.{◌∙◌, sym, subst}
use Rattle.ips_metafiles.specs.Records.{IsQuotedName}
use Rattle.ips_delivered.proofs.delivered.Picked.{license_kind, stem_quoted}
use Rattle.ips_delivered.proofs.delivered.named.license_of.Goals as goal

pub license_name-name-requires : goal.license_name-name-requires
license_name-name-requires c = license_kind c.args.item.now.action.kind c.requires.kind

pub license_at-requires-clause-stem : goal.license_at-requires-clause-stem
license_at-requires-clause-stem c = subst IsQuotedName (sym (c.as_str.ensures ∙ c.stem.ensures)) (stem_quoted c.args.item.now.stem c.requires.stem)
