use Rattle.std.proofs.Common.{◌≡◌, ℕ, List, ap, sym, subst, ◌∙◌}
use Rattle.std.specs.Str.{IsUtf8}
use Rattle.ips_fmri.specs.Fmri.{IsFmri, WritesFmri, fmri_text}
use Rattle.ips_fmri.specs.declared.fmri.Fmri.{Fmri}
use Rattle.ips_fmri.specs.declared.fault.FmriFault.{FmriFault}
use Rattle.ips_fmri.proofs.Readings.{fmri_written}
use Rattle.ips_records.specs.Listed.{Sole}
use Rattle.ips_records.proofs.Found.{found_some, found_none, gives_same}
use Rattle.ips_records.proofs.NameForms.{fmri_sole, fmri_utf8}
use Rattle.ips_records.proofs.names.canonical.Goals as goal

pub returns-in_default-clause-none : goal.returns-in_default-clause-none
returns-in_default-clause-none c = λ f h e. c.in_default.ensures.cases.0 (subst IsUtf8 e (fmri_utf8 f h))

pub returns-in-Ok-parse-clause-sole : goal.returns-in-Ok-parse-clause-sole
returns-in-Ok-parse-clause-sole c =
    found_some c.if_spelled.result (λ (same : Fmri). (same ≡ c.in-Ok-parse.fmri) × (fmri_text c.in-Ok-parse.fmri ≡ c.args.bytes.now)) (Sole fmri_text IsFmri)
    (λ same h. subst (Sole fmri_text IsFmri) (sym h.0) (fmri_sole c.in-Ok-parse.fmri c.in-Ok-parse.ensures.found.0)) c.if_spelled.ensures.some

pub returns-in-Ok-parse-clause-none : goal.returns-in-Ok-parse-clause-none
returns-in-Ok-parse-clause-none c =
    let text = c.in-Ok.ensures.cases.0 in
    found_none c.if_spelled.result (fmri_text c.in-Ok-parse.fmri ≡ c.args.bytes.now → ⊥) ((f : Fmri) → IsFmri f → fmri_text f ≡ c.args.bytes.now → ⊥)
    (λ never f h e.
    let written = subst (WritesFmri f) (e ∙ sym text) (fmri_written f h).1 in
    let same = gives_same FmriFault (λ (x : Fmri). x) c.in-Ok-parse.fmri f (c.in-Ok-parse.ensures.only f h written) in
    never (ap fmri_text (sym same) ∙ e))
    c.if_spelled.ensures.none
