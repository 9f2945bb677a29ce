use Rattle.std.proofs.Common.{◌∙◌, ap₂, subst}
use Rattle.std.specs.List.{AllByRecursion}
use Rattle.ips_delivered.specs.delivered.Named.{NamesLegacy, NamesLicense, records_with}
use Rattle.ips_delivered.proofs.delivered.Outcomes.{when_ok}
use Rattle.ips_delivered.proofs.delivered.delivering.records.Goals as goal

pub returns : goal.returns
returns c =
    let names = c.in_ok-named.ensures in
    when_ok c.all_records.result _ c.all_records.ensures _ (λ records h. record {
      drivers = h.0;
      are_drivers = h.1;
      named = record { licenses = subst (AllByRecursion NamesLicense) names.licenses names.names.licenses; packages = subst (AllByRecursion NamesLegacy) names.legacy names.names.packages };
      records_are = h.2 ∙ ap₂ (records_with c.args.rows.now h.0) names.licenses names.legacy;
    })
