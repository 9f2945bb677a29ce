use Rattle.std.proofs.Common.{◌∙◌, sym}
use Rattle.ips_records.proofs.Found.{found_none}
use Rattle.ips_packages.proofs.Records.{not_below, not_quoted, not_stem}
use Rattle.ips_packages.proofs.child.stem_at.Goals as goal

pub returns-in_default-clause-none : goal.returns-in_default-clause-none
returns-in_default-clause-none c = not_below c.args.path.now.bytes (λ name e. c.in_default.ensures.none name (c.bytes.ensures.value ∙ e))

pub returns-in_default-2-clause-none : goal.returns-in_default-2-clause-none
returns-in_default-2-clause-none c = not_quoted c.args.path.now.bytes c.in-Some.name.now (sym c.bytes.ensures.value ∙ c.in-Some.ensures.some) (rw c.in_default-2.is at c.in_ok-word.ensures.none)

pub returns-clause-none : goal.returns-clause-none
returns-clause-none c =
    found_none c.stem.result _ _ (λ none.
    not_stem c.args.path.now.bytes c.in-Some.name.now c.in-Some-2.word (sym c.bytes.ensures.value ∙ c.in-Some.ensures.some) (rw c.in-Some-2.is at c.in_ok-word.ensures.sole).fits (rw c.in-Some-2.is at c.in_ok-word.ensures.of_bytes)
    (λ s is e. none s is (e ∙ sym (c.as_bytes.ensures.value ∙ c.as_str.ensures)))) c.stem.ensures.none
