use Rattle.std.proofs.Common.{◌∙◌, Global, Vec, refl, subst, sym}
use Rattle.std.specs.List.{AllZip}
use Rattle.ips_request.specs.declared.read.Read.{Read}
use Rattle.ips_request.specs.Manifests.{needed}
use Rattle.ips_request.specs.Subject.{case_in, files_of, repo_of}
use Rattle.ips_request.proofs.Named.{bad_handed}
use Rattle.ips_problem.specs.declared.rows.Row.{Row}
use Rattle.ips_problem.specs.Gathered.{AreReadBehind, IsFaultAmong, IsReadOf}
use Rattle.ips_problem.proofs.Offering.{newest_gone, row_known}
use Rattle.ips_text.specs.declared.refusal.Or.TheVariants.{Bad}
use Rattle.ips_outside.proofs.Reading.{handed_on}
use Rattle.ips_request.specs.declared.fault.ProblemFault.TheVariants as fault
use Rattle.ips_problem.proofs.gathering.row_of.Goals as goal

pub returns-in-Ok-clause-row : goal.returns-in-Ok-clause-row
returns-in-Ok-clause-row g c = λ told r is.
    let held = (g.S.Source.outside.state c.args.source.now).held in
    let s = c.args.subject.now in
    let stem = c.args.stem.now in
    let case = case_in s held r in
    let file = files_of (repo_of s) held in
    let reads = c.in-Ok.reads.items in
    let row = c.in_ok-arranged_row-in-Ok.field-0 in
    let read = c.in-Ok.ensures.read told r is in
    let all = subst (λ vs. AllZip (IsReadOf case stem) vs reads) (c.as_slice.ensures.value ∙ c.in_ok-versions.ensures file r) read.each in
    row_known case stem row reads all c.in_ok-arranged_row-in-Ok.ensures.reads (c.in_ok-arranged_row-in-Ok.ensures.candidates file r) (c.in_ok-arranged_row-in-Ok.ensures.before file r) (c.in_ok-arranged_row-in-Ok.ensures.spared file r (newest_gone case stem reads all))

pub returns-in-Ok-clause-read : goal.returns-in-Ok-clause-read
returns-in-Ok-clause-read g c = λ told r is.
    let held = (g.S.Source.outside.state c.args.source.now).held in
    let s = c.args.subject.now in
    let stem = c.args.stem.now in
    let case = case_in s held r in
    subst (AreReadBehind case c.args.total.now c.read_all.new.total stem (needed case stem)) (sym c.in_ok-arranged_row-in-Ok.ensures.reads)
    (subst (λ vs. AreReadBehind case c.args.total.now c.read_all.new.total stem vs c.in-Ok.reads.items) (c.as_slice.ensures.value ∙ c.in_ok-versions.ensures (files_of (repo_of s) held) r) (c.in-Ok.ensures.read told r is))

pub returns-clause-bad : goal.returns-clause-bad
returns-clause-bad g c = λ told.
    let held = (g.S.Source.outside.state c.args.source.now).held in
    let s = c.args.subject.now in
    let stem = c.args.stem.now in
    bad_handed (Vec Read Global) Row _ _ c.in-Err.why (c.in-Err.ensures.bad told)
    (λ why h r is. subst (λ vs. IsFaultAmong s.state.now.settings (case_in s held r) c.args.total.now stem vs why) (c.as_slice.ensures.value ∙ c.in_ok-versions.ensures (files_of (repo_of s) held) r) (h r is))

pub returns-clause-asks : goal.returns-clause-asks
returns-clause-asks g c = λ failed. c.read_all.ensures.asks (handed_on c.read_all.result _ c.in-Err.why (Bad fault.SourceFault) c.in-Err.is refl failed)
