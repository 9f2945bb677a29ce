use Rattle.std.proofs.Common.{refl}
use Rattle.ips_text.specs.declared.refusal.Or.TheVariants.{Bad}
use Rattle.ips_manifest.specs.declared.manifest.Manifest.{Manifest}
use Rattle.ips_outside.proofs.Reading.{handed_on, no_fault, reads_as}
use Rattle.ips_request.specs.declared.fault.ProblemFault.TheVariants as fault
use Rattle.ips_request.specs.declared.read.Read.{Read}
use Rattle.ips_request.specs.Case.{own}
use Rattle.ips_request.specs.Manifests.{name_of}
use Rattle.ips_request.specs.Subject.{case_in, files_of, repo_of}
use Rattle.ips_request.proofs.Results.{ok_also, bad_also, bad_not}
use Rattle.ips_request.proofs.Named.{bad_handed}
use Rattle.ips_problem.proofs.Judging.{read_behind, judged_fault, got_fault}
use Rattle.ips_problem.proofs.gathering.read_version.Goals as goal

pub returns-in-Ok-clause-read : goal.returns-in-Ok-clause-read
returns-in-Ok-clause-read g c = λ told.
    let held = (g.S.Source.outside.state c.args.source.now).held in
    let s = c.args.subject.now in
    ok_also c.judged_read.result _ _ c.judged_read.ensures.read
    (λ read j r is. read_behind s.state.now.settings (case_in s held r) c.args.stem.now c.args.version.now c.args.total.now c.manifest_of.new.total c.in-Ok.manifest.lines.items read is
    (c.in-Ok.ensures.got told r) (j (files_of (repo_of s) held) r))

pub returns-in-Ok-clause-bad : goal.returns-in-Ok-clause-bad
returns-in-Ok-clause-bad g c = λ told.
    let held = (g.S.Source.outside.state c.args.source.now).held in
    let s = c.args.subject.now in
    let stem = c.args.stem.now in
    let v = c.args.version.now in
    bad_also c.judged_read.result _ _ c.judged_read.ensures.bad
    (λ why h r is. judged_fault s.state.now.settings c.args.total.now c.manifest_of.new.total c.in-Ok.manifest.lines.items (own (case_in s held r) stem v) (files_of (repo_of s) held stem v)
    (name_of (record { stem = stem; version = v })) why (c.in-Ok.ensures.got told r) h)

pub returns-in-Ok-clause-reads : goal.returns-in-Ok-clause-reads
returns-in-Ok-clause-reads g c =
    reads_as g.S.Source.outside c.args.source.now c.manifest_of.new.source _ _ c.manifest_of.ensures.reads
    (λ failed. absurd (no_fault c.manifest_of.result c.in-Ok.manifest (Bad fault.SourceFault) c.in-Ok.is failed))
    (λ failed. absurd (bad_not c.judged_read.result _ fault.SourceFault c.judged_read.ensures.bad failed))

pub returns-in-Err-clause-bad : goal.returns-in-Err-clause-bad
returns-in-Err-clause-bad g c = λ told.
    let held = (g.S.Source.outside.state c.args.source.now).held in
    let s = c.args.subject.now in
    let stem = c.args.stem.now in
    let v = c.args.version.now in
    bad_handed Manifest Read _ _ c.in-Err.why (c.in-Err.ensures.bad told)
    (λ why h r is. got_fault s.state.now.settings c.args.total.now (own (case_in s held r) stem v) (files_of (repo_of s) held stem v) (name_of (record { stem = stem; version = v })) why (h r))

pub returns-in-Err-clause-reads : goal.returns-in-Err-clause-reads
returns-in-Err-clause-reads g c =
    reads_as g.S.Source.outside c.args.source.now c.manifest_of.new.source _ _ c.manifest_of.ensures.reads
    (λ failed. handed_on _ c.manifest_of.result c.in-Err.why (Bad fault.SourceFault) refl c.in-Err.is failed)
    (λ failed. handed_on c.manifest_of.result _ c.in-Err.why (Bad fault.SourceFault) c.in-Err.is refl failed)

pub returns-in-Ok-clause-asks : goal.returns-in-Ok-clause-asks
returns-in-Ok-clause-asks g c = λ failed. absurd (bad_not c.judged_read.result _ fault.SourceFault c.judged_read.ensures.bad failed)

pub returns-in-Err-clause-asks : goal.returns-in-Err-clause-asks
returns-in-Err-clause-asks g c = λ failed. c.manifest_of.ensures.asks (handed_on c.manifest_of.result _ c.in-Err.why (Bad fault.SourceFault) c.in-Err.is refl failed)
