use Rattle.std.proofs.Common.{◌≡◌, Global, Vec, List, ℕ, Ok, Err, sym, ap, subst, ◌∙◌}
use Rattle.std.specs.Prelude.{IfOk}
use Rattle.std.specs.List.{Contains}
use Rattle.ips_text.specs.Reading.{IfBad}
use Rattle.ips_text.specs.declared.refusal.Or.TheVariants.{Bad}
use Rattle.ips_outside.specs.Image.{Image}
use Rattle.ips_outside.specs.State.{State}
use Rattle.ips_outside.specs.Children.{path_bytes}
use Rattle.ips_outside.proofs.Reading.{no_fault, reads_none, reads_as}
use Rattle.ips_catalog.specs.Listed.{Listed, versions_of}
use Rattle.ips_manifest.specs.declared.draft.Draft.{Draft}
use Rattle.ips_repo.specs.Opening.{Opened, opening}
use Rattle.ips_ways.specs.Ways.{IsFree}
use Rattle.ips_judged.specs.declared.verdict.Publication.{Publication}
use Rattle.ips_judged.specs.declared.verdict.JudgeFault.TheVariants as fault
use Rattle.ips_judged.specs.Steps.{IsWhy, IsUnopened}
use Rattle.ips_judged.specs.Answers.{SaysOfJudging}
use Rattle.ips_judged.proofs.Dues.{unopened_says, unready_says, listed_due, not_of_proto, not_of_target}
use Rattle.ips_judged.proofs.judging.judged.Goals as goal

pub returns-in-Err-clause-refused : goal.returns-in-Err-clause-refused
returns-in-Err-clause-refused g c = λ told told_target.
    let proto = (g.S.Source.outside.state c.args.proto.now).held in
    let t = (g.F.Source.outside.state c.args.target.now).held in
    unopened_says proto t c.args.asked.now Opened Publication c.in-Err.fault
    (subst (λ (p : List ℕ). IfBad {X = Opened} (Err c.in-Err.fault) (IsWhy (IsUnopened p t))) c.as_str.ensures (c.in-Err.ensures.refused told_target))

pub returns-in-Err-clause-reads_proto : goal.returns-in-Err-clause-reads_proto
returns-in-Err-clause-reads_proto g c = reads_none g.S.Source.outside c.args.proto.now _ (not_of_proto Opened Publication c.in-Err.fault c.in-Err.ensures.own)

pub returns-in-Err-ready_drafts-clause-refused : goal.returns-in-Err-ready_drafts-clause-refused
returns-in-Err-ready_drafts-clause-refused g c = λ told told_target.
    let proto = (g.S.Source.outside.state c.args.proto.now).held in
    let t = (g.F.Source.outside.state c.args.target.now).held in
    let opened = subst (λ (p : List ℕ). opening p t ≡ Ok c.in-Ok.repo.catalog) c.as_str.ensures (c.in-Ok.ensures.opened told_target) in
    unready_says proto t c.args.asked.now c.in-Ok.repo.catalog opened (Vec Draft Global) Publication c.in-Err-ready_drafts.fault (c.in-Err-ready_drafts.ensures.refused told)

pub returns-in-Err-ready_drafts-clause-reads : goal.returns-in-Err-ready_drafts-clause-reads
returns-in-Err-ready_drafts-clause-reads g c =
    let no = not_of_target (Vec Draft Global) Publication c.in-Err-ready_drafts.fault c.in-Err-ready_drafts.ensures.own in
    reads_as g.F.Source.outside c.args.target.now c.open.new.target _ _ c.open.ensures.reads (λ failed. absurd (no_fault c.open.result c.in-Ok.repo (Bad fault.FolderFault) c.in-Ok.is failed)) (λ failed. absurd (no failed))

pub returns-then-is_listed-clause-refused : goal.returns-then-is_listed-clause-refused
returns-then-is_listed-clause-refused g c = λ told told_target.
    let proto = (g.S.Source.outside.state c.args.proto.now).held in
    let t = (g.F.Source.outside.state c.args.target.now).held in
    let a = c.args.asked.now in
    let catalog : List Listed = c.in-Ok.repo.catalog in
    let opened = subst (λ (p : List ℕ). opening p t ≡ Ok catalog) c.as_str.ensures (c.in-Ok.ensures.opened told_target) in
    let among = c.is_listed.ensures.0 c.if-is_listed.true in
    let here = subst (λ (s : List ℕ). Contains (versions_of catalog s) a.version) c.as_str-2.ensures (subst (λ (l : List Listed). Contains (versions_of l c.as_str-2.result.now) a.version) c.catalog.ensures.catalog among) in
    subst (SaysOfJudging proto t a) (sym c.refused.ensures)
    (listed_due proto t a catalog opened c.in-Ok-ready_drafts.drafts.items (c.in-Ok-ready_drafts.ensures.found told) (c.in-Ok-ready_drafts.ensures.sources told) here)

pub returns-clause-free : goal.returns-clause-free
returns-clause-free g c = λ told.
    let r = c.open.ensures.reads in
    subst (λ (u : Image). IfOk c.publication.result (λ p. IsFree u (path_bytes p.ways.items))) (ap (λ (s : State). s.held) r.kept) (c.publication.ensures.free (r.call.same_kind ∙ told))
