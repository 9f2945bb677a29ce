use Rattle.std.proofs.Common.{◌∙◌, ◌∷◌, [], ◌++◌, List, ℕ, map, ap, ap₂}
use Rattle.ips_due.specs.Due.{Content}
use Rattle.ips_due.specs.declared.outstanding.due.DueRecord.{DueRecord}
use Rattle.ips_due.specs.outstanding.Parts.{due_record}
use Rattle.ips_delivered.proofs.delivered.delivering.first_records.Goals as goal

pub returns : goal.returns
returns c =
    let w = c.in_ok-drivers.ensures in (
      w.0,
      w.1,
      ap (map due_record) (c.in_ok-push-2.ensures.items ∙ ap (λ (l : List DueRecord). l ++ c.in_ok-drivers.drivers ∷ []) (c.in_ok-push.ensures.items ∙ ap (λ (l : List DueRecord). l ++ c.in_ok-owners.owners ∷ []) c.new-records.ensures.items))
          ∙ ap₂ (λ (a b : List ℕ × Content). a ∷ b ∷ []) c.in_ok-owners.ensures w.2,
    )
