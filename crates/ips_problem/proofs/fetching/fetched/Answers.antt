use Rattle.std.proofs.Common.{◌≡◌, ◌∙◌, ℕ, List, Some, Err, Vec, Global, ap, refl, subst, sym}
use Rattle.ips_text.specs.declared.refusal.Or.TheVariants.{Bad}
use Rattle.ips_manifest.specs.declared.manifest.Manifest.{Manifest}
use Rattle.ips_files.specs.Files.{file_at}
use Rattle.ips_repo.specs.Places.{manifest_place}
use Rattle.ips_repo.specs.declared.fault.RepoFault.TheVariants as repo
use Rattle.ips_outside.proofs.Reading.{no_fault, reads_as}
use Rattle.ips_repo.proofs.Manifests.{given_bytes}
use Rattle.ips_request.specs.declared.fault.ProblemFault.TheVariants as fault
use Rattle.ips_request.specs.Manifests.{IsFetched, IsFetchFault, name_of}
use Rattle.ips_request.proofs.Results.{ok_also, bad_also, bad_not}
use Rattle.ips_request.proofs.ManifestFiles.{refusal_of, source_unread, there, unread_fault, unread_source}
use Rattle.ips_problem.proofs.fetching.fetched.Goals as goal

pub returns-in-Ok-clause-found : goal.returns-in-Ok-clause-found
returns-in-Ok-clause-found g c = λ told.
    let file = file_at (g.S.Source.outside.state c.args.source.now).held (manifest_place c.args.repo.now.publisher c.args.stem.now c.args.version.now) in
    let given = given_bytes file c.in-Ok.bytes.items (c.in-Ok.ensures.meant told) in
    ok_also c.parsed.result _ _ c.parsed.ensures.found
    (λ m h. there file c.in-Ok.bytes.items (IsFetched c.args.total.now c.parsed.new.total m.lines.items) given.0 (subst (IsFetched c.args.total.now c.parsed.new.total m.lines.items) c.as_slice.ensures.value h))

pub returns-in-Ok-clause-bad : goal.returns-in-Ok-clause-bad
returns-in-Ok-clause-bad g c = λ told.
    let file = file_at (g.S.Source.outside.state c.args.source.now).held (manifest_place c.args.repo.now.publisher c.args.stem.now c.args.version.now) in
    let given = given_bytes file c.in-Ok.bytes.items (c.in-Ok.ensures.meant told) in
    let shown = ap (λ (b : List ℕ). Some b) c.as_slice.ensures.value ∙ sym given.0 in
    bad_also c.parsed.result _ _ c.parsed.ensures.bad
    (λ why h. subst (λ f. IsFetchFault c.args.total.now f (name_of (record { stem = c.args.stem.now; version = c.args.version.now })) why) shown h.0)

pub returns-in-Ok-clause-reads : goal.returns-in-Ok-clause-reads
returns-in-Ok-clause-reads g c =
    reads_as g.S.Source.outside c.args.source.now c.manifest_bytes.new.source _ _ c.manifest_bytes.ensures.reads
    (λ failed. absurd (no_fault c.manifest_bytes.result c.in-Ok.bytes (Bad repo.SourceFault) c.in-Ok.is failed))
    (λ failed. let never = bad_not c.parsed.result _ fault.SourceFault c.parsed.ensures.bad failed in absurd (never.1 refl))

pub returns-in-Err-Bad-clause-bad : goal.returns-in-Err-Bad-clause-bad
returns-in-Err-Bad-clause-bad g c = λ told.
    let file = file_at (g.S.Source.outside.state c.args.source.now).held (manifest_place c.args.repo.now.publisher c.args.stem.now c.args.version.now) in
    let why = refusal_of (Vec ℕ Global) (λ b. b.items) file c.in-Err-Bad.field-0 c.in-Err-Bad.fault c.in-Err-Bad.field-0-is c.in-Err-Bad.ensures.faults (c.in-Err-Bad.ensures.meant told) in
    unread_fault Manifest c.args.total.now file (name_of (record { stem = c.args.stem.now; version = c.args.version.now })) c.in-Err-Bad.fault c.unread.result why.0 why.1 c.unread.ensures

pub returns-in-Err-Bad-clause-reads : goal.returns-in-Err-Bad-clause-reads
returns-in-Err-Bad-clause-reads g c =
    let name = name_of (record { stem = c.args.stem.now; version = c.args.version.now }) in
    let was = c.in-Err-Bad.is ∙ ap (λ e. Err e) c.in-Err-Bad.field-0-is in
    reads_as g.S.Source.outside c.args.source.now c.manifest_bytes.new.source _ _ c.manifest_bytes.ensures.reads
    (λ failed. let same : c.in-Err-Bad.fault ≡ repo.SourceFault = cc in ap (λ e. Err e) (source_unread name c.in-Err-Bad.fault c.unread.result c.unread.ensures same))
    (λ failed. let same : c.unread.result ≡ Bad fault.SourceFault = cc in was ∙ ap (λ f. Err (Bad f)) (unread_source name c.in-Err-Bad.fault c.unread.result c.unread.ensures same))

pub returns-in-Ok-clause-manifest : goal.returns-in-Ok-clause-manifest
returns-in-Ok-clause-manifest g c = ok_also c.parsed.result _ _ c.parsed.ensures.found (λ m h. (c.as_slice.result.now, h.manifest))
