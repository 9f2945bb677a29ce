use Rattle.std.proofs.Common.{◌∙◌, sym, rules}
use Rattle.std.proofs.lemmas.Iterator.{YieldsList-from_slice}
use Rattle.std.proofs.lemmas.Iterator.Search.{any_from_yields_List}
use Rattle.ips_action.specs.Table.{AttributeRow, row_seen}
use Rattle.ips_action.specs.declared.table.Row as declared
use Rattle.ips_action.specs.Judging.{is_payload}
use Rattle.ips_action.proofs.Judged.{any_mapped}
use Rattle.ips_action.proofs.judging.has_payload_row.Goals as goal

pub returns : goal.returns
returns c =
    any_from_yields_List (λ (r : declared.Row). is_payload r.check) _ _ c.any.result c.any.ensures.ran (YieldsList-from_slice c.args.rows.now cc) (λ x b q h. search rules)
    ∙ sym (any_mapped row_seen (λ (r : AttributeRow). is_payload r.check) c.args.rows.now)
