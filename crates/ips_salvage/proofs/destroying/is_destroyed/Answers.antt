use Rattle.std.proofs.Common.{Bool, not, ◌&&◌, sym, ◌∙◌, ap}
use Rattle.ips_after.specs.Change as changes
use Rattle.ips_text.specs.Ancestry as ancestry
use Rattle.ips_steps.specs.Private.{records_name}
use Rattle.ips_salvage.proofs.Destruction.{destroyed_here}
use Rattle.ips_salvage.proofs.destroying.is_destroyed.Goals as goal

pub returns-then-not-is_of_records : goal.returns-then-not-is_of_records
returns-then-not-is_of_records c = λ r t of looked is.
    let p = c.args.row.now.path.now.bytes in
    ap (λ (b : Bool). not b && not c.is_spared.result) (sym c.if-not-is_of_records.true)
    ∙ ap (λ (b : Bool). b && (not c.is_of_records.result && not c.is_spared.result)) (sym c.if-not-makes.false)
    ∙ destroyed_here r t p c.makes.result c.is_of_records.result c.is_spared.result
    (c.makes.ensures r.bytes ∙ ap changes.makes is) (c.is_of_records.ensures ∙ ap (ancestry.covers records_name) c.bytes.ensures.value)
    (λ made. c.is_spared.ensures r t of looked (sym (c.makes.ensures r.bytes ∙ ap changes.makes is) ∙ made))
