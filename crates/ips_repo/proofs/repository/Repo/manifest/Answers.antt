use Rattle.std.proofs.Common.{◌≡◌, ℕ, List, Some, Err, Vec, Global, sym, ◌∙◌, ap, subst, arith}
use Rattle.std.proofs.lemmas.Result.{err_from_is_err_and}
use Rattle.ips_text.specs.declared.refusal.Or.{Or}
use Rattle.ips_text.specs.declared.refusal.Or.TheVariants.{Bad}
use Rattle.ips_manifest.specs.declared.line.Line.{Line}
use Rattle.ips_manifest.specs.declared.manifest.Manifest.{Manifest}
use Rattle.ips_manifest.specs.Manifest.{IsManifestOf}
use Rattle.ips_repo.specs.Answer.{Answers}
use Rattle.ips_repo.specs.Opening.{Opened}
use Rattle.ips_repo.specs.Manifest.{manifest_file, manifest_in}
use Rattle.ips_repo.specs.declared.fault.RepoFault.{RepoFault}
use Rattle.ips_repo.specs.declared.fault.RepoFault.TheVariants as fault
use Rattle.ips_outside.proofs.Reading.{handed_on, no_fault, reads_as}
use Rattle.ips_repo.proofs.Manifests.{given_bytes, holds_bytes, refused_bytes, faults_bytes, only_bytes, refused_text, faults_text, steady_text, only_text}
use Rattle.ips_repo.proofs.repository.Repo.manifest.Goals as goal

pub returns-in_err-bytes-clause-only : goal.returns-in_err-bytes-clause-only
returns-in_err-bytes-clause-only g c = λ told lines size h.
    let held = (g.S.Source.outside.state c.args.source.now).held in
    let file = manifest_file c.args.self.now.publisher c.args.stem.now c.args.version.now held in
    let named = c.as_str.ensures ∙ ap (λ (r : Opened). r.publisher) c.self.view_is in
    let left = err_from_is_err_and c.from_residual.result c.from_residual.ensures.1 in
    let meant = subst (λ (p : List ℕ). Answers (λ (b : Vec ℕ Global). b.items) (Err c.in_err-bytes.field-0.0) (manifest_in (manifest_file p c.args.stem.now c.args.version.now held))) named (c.in_err-bytes.ensures.meant told) in
    rw (left.1, left.2) (only_bytes (Vec ℕ Global) (Manifest × ℕ) (λ b. b.items) file {Y = List Line × ℕ} (λ m. (m.0.lines.items, m.1)) (lines, size) h.bytes (holds_bytes file lines size h) c.in_err-bytes.field-0.0 meant)

pub returns-in_err-bytes-clause-refused : goal.returns-in_err-bytes-clause-refused
returns-in_err-bytes-clause-refused g c = λ told.
    let held = (g.S.Source.outside.state c.args.source.now).held in
    let file = manifest_file c.args.self.now.publisher c.args.stem.now c.args.version.now held in
    let named = c.as_str.ensures ∙ ap (λ (r : Opened). r.publisher) c.self.view_is in
    let left = err_from_is_err_and c.from_residual.result c.from_residual.ensures.1 in
    let meant = subst (λ (p : List ℕ). Answers (λ (b : Vec ℕ Global). b.items) (Err c.in_err-bytes.field-0.0) (manifest_in (manifest_file p c.args.stem.now c.args.version.now held))) named (c.in_err-bytes.ensures.meant told) in
    rw (left.1, left.2) (refused_bytes (Vec ℕ Global) (Manifest × ℕ) (λ b. b.items) file c.in_err-bytes.field-0.0 c.in_err-bytes.ensures.faults meant)

pub returns-in_err-bytes-clause-faults : goal.returns-in_err-bytes-clause-faults
returns-in_err-bytes-clause-faults g c =
    let held = (g.S.Source.outside.state c.args.source.now).held in
    let file = manifest_file c.args.self.now.publisher c.args.stem.now c.args.version.now held in
    let left = err_from_is_err_and c.from_residual.result c.from_residual.ensures.1 in
    rw (left.1, left.2) (faults_bytes (Vec ℕ Global) (Manifest × ℕ) (λ b. b.items) file c.in_err-bytes.field-0.0 c.in_err-bytes.ensures.faults)

pub returns-in_err-bytes-clause-reads : goal.returns-in_err-bytes-clause-reads
returns-in_err-bytes-clause-reads g c =
    let left = err_from_is_err_and c.from_residual.result c.from_residual.ensures.1 in
    let was = c.in_err-bytes.was ∙ ap (λ (e : Or RepoFault). Err e) (sym left.2) in
    reads_as g.S.Source.outside c.args.source.now c.manifest_bytes.new.source _ _ c.manifest_bytes.ensures.reads
    (λ is. handed_on c.from_residual.result c.manifest_bytes.result left.0 (Bad fault.SourceFault) left.1 was is)
    (λ is. handed_on c.manifest_bytes.result c.from_residual.result left.0 (Bad fault.SourceFault) was left.1 is)

pub returns-in_err-manifest-clause-only : goal.returns-in_err-manifest-clause-only
returns-in_err-manifest-clause-only g c = λ told lines size h.
    let held = (g.S.Source.outside.state c.args.source.now).held in
    let file = manifest_file c.args.self.now.publisher c.args.stem.now c.args.version.now held in
    let named = c.as_str.ensures ∙ ap (λ (r : Opened). r.publisher) c.self.view_is in
    let given = given_bytes file c.in_ok-bytes.bytes.items (ap (λ (p : List ℕ). manifest_in (manifest_file p c.args.stem.now c.args.version.now held)) (sym named) ∙ c.in_ok-bytes.ensures.meant told) in
    let one : h.bytes ≡ c.as_slice.result.now = let stands = h.stands in let mine = given.0 in let shown = c.as_slice.ensures.value in cc in
    let left = err_from_is_err_and c.from_residual-in_err-manifest.result c.from_residual-in_err-manifest.ensures.1 in
    rw (left.1, left.2) (only_text {Z = List Line × ℕ} (λ (m : Manifest × ℕ). m.0.lines.items) (λ (m : Manifest × ℕ). (m.0.lines.items, m.1)) lines (lines, size) c.in_err-manifest.field-0.0
    (c.in_err-manifest.ensures.only lines (subst (λ (b : List ℕ). IsManifestOf b lines) one h.means)))

pub returns-in_err-manifest-clause-refused : goal.returns-in_err-manifest-clause-refused
returns-in_err-manifest-clause-refused g c = λ told.
    let held = (g.S.Source.outside.state c.args.source.now).held in
    let file = manifest_file c.args.self.now.publisher c.args.stem.now c.args.version.now held in
    let named = c.as_str.ensures ∙ ap (λ (r : Opened). r.publisher) c.self.view_is in
    let given = given_bytes file c.in_ok-bytes.bytes.items (ap (λ (p : List ℕ). manifest_in (manifest_file p c.args.stem.now c.args.version.now held)) (sym named) ∙ c.in_ok-bytes.ensures.meant told) in
    let shown = c.as_slice.ensures.value in
    let left = err_from_is_err_and c.from_residual-in_err-manifest.result c.from_residual-in_err-manifest.ensures.1 in
    rw (left.1, left.2) (refused_text (Manifest × ℕ) (Manifest × ℕ) c.as_slice.result.now file (given.0 ∙ ap (λ (b : List ℕ). Some b) (sym shown)) (rw shown given.1) c.in_err-manifest.field-0.0 c.in_err-manifest.ensures.faults)

pub returns-in_err-manifest-clause-faults : goal.returns-in_err-manifest-clause-faults
returns-in_err-manifest-clause-faults g c =
    let left = err_from_is_err_and c.from_residual-in_err-manifest.result c.from_residual-in_err-manifest.ensures.1 in
    rw (left.1, left.2) (faults_text (Manifest × ℕ) (Manifest × ℕ) c.as_slice.result.now c.in_err-manifest.field-0.0 c.in_err-manifest.ensures.faults)

pub returns-in_err-manifest-clause-reads : goal.returns-in_err-manifest-clause-reads
returns-in_err-manifest-clause-reads g c =
    let left = err_from_is_err_and c.from_residual-in_err-manifest.result c.from_residual-in_err-manifest.ensures.1 in
    reads_as g.S.Source.outside c.args.source.now c.manifest_bytes.new.source _ _ c.manifest_bytes.ensures.reads
    (λ is. absurd (no_fault c.manifest_bytes.result _ _ c.in_ok-bytes.was is))
    (λ is. absurd (steady_text (Manifest × ℕ) (Manifest × ℕ) c.as_slice.result.now c.in_err-manifest.field-0.0 c.in_err-manifest.ensures.faults (sym left.2 ∙ (let told = left.1 in cc))))

pub returns-clause-found : goal.returns-clause-found
returns-clause-found g c = λ told.
    let held = (g.S.Source.outside.state c.args.source.now).held in
    let file = manifest_file c.args.self.now.publisher c.args.stem.now c.args.version.now held in
    let named = c.as_str.ensures ∙ ap (λ (r : Opened). r.publisher) c.self.view_is in
    let given = given_bytes file c.in_ok-bytes.bytes.items (ap (λ (p : List ℕ). manifest_in (manifest_file p c.args.stem.now c.args.version.now held)) (sym named) ∙ c.in_ok-bytes.ensures.meant told) in
    let shown = c.as_slice.ensures.value in
    record {
      bytes = c.as_slice.result.now;
      stands = given.0 ∙ ap (λ (b : List ℕ). Some b) (sym shown);
      within = rw shown given.1;
      means = c.in_ok-manifest.ensures.found.0;
      sized = c.in_ok-manifest.ensures.found.1;
    }

pub returns-clause-only : goal.returns-clause-only
returns-clause-only g c = λ told lines size h.
    let held = (g.S.Source.outside.state c.args.source.now).held in
    let file = manifest_file c.args.self.now.publisher c.args.stem.now c.args.version.now held in
    let named = c.as_str.ensures ∙ ap (λ (r : Opened). r.publisher) c.self.view_is in
    let given = given_bytes file c.in_ok-bytes.bytes.items (ap (λ (p : List ℕ). manifest_in (manifest_file p c.args.stem.now c.args.version.now held)) (sym named) ∙ c.in_ok-bytes.ensures.meant told) in
    let one : h.bytes ≡ c.as_slice.result.now = let stands = h.stands in let mine = given.0 in let shown = c.as_slice.ensures.value in cc in
    let read = c.in_ok-manifest.ensures.only lines (subst (λ (b : List ℕ). IsManifestOf b lines) one h.means) in
    let sized = h.sized in
    let count = c.in_ok-manifest.ensures.found.1 in
    cc

pub returns-clause-read : goal.returns-clause-read
returns-clause-read g c = record {
  bytes = c.as_slice.result.now;
  within = rw c.as_slice.ensures.value (let sized = c.in_ok-bytes.bytes.ok.0 in omega (arith, c.in_ok-bytes.ensures.within));
  means = c.in_ok-manifest.ensures.found.0;
  sized = c.in_ok-manifest.ensures.found.1;
}

pub returns-clause-reads : goal.returns-clause-reads
returns-clause-reads g c = reads_as g.S.Source.outside c.args.source.now c.manifest_bytes.new.source _ _ c.manifest_bytes.ensures.reads
    (λ is. absurd (no_fault c.manifest_bytes.result _ _ c.in_ok-bytes.was is)) (λ is. absurd (cc))
