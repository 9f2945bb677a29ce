use Rattle.std.proofs.Common.{◌≡◌, refl, ap, subst, ◌∙◌}
use Rattle.ips_outside.specs.Image.{Image}
use Rattle.ips_outside.specs.State.{State}
use Rattle.ips_after.specs.Change.{reached}
use Rattle.ips_conflict.specs.Index.{has_path}
use Rattle.ips_due.specs.Due.{Due}
use Rattle.ips_due.specs.declared.outstanding.asking.Role.TheVariants as role
use Rattle.ips_due.specs.outstanding.Noted.{Adds}
use Rattle.ips_due.specs.outstanding.Parts.{due_of}
use Rattle.ips_due.specs.outstanding.Verdicts.{role_said}
use Rattle.ips_due.proofs.outstanding.Meant.{told_due}
use Rattle.ips_due.proofs.outstanding.filling.ask.Goals as goal

pub returns-clause-found : goal.returns-clause-found
returns-clause-found g c = λ told bytes.
    let due : Due = due_of g.R.Records.records c.args.due.now in
    let o = g.S.Source.outside in
    let t = (o.state c.args.source.now).held in
    let s2 = c.add_records.ensures.reads in
    let s3 = c.add_paths.ensures.reads in
    let s4 = c.add_paths-2.ensures.reads in
    let held : State → Image = λ s. s.held in
    let k2 : (o.state c.add_records.new.source).held ≡ t = ap held s2.kept in
    let k3 : (o.state c.add_paths.new.source).held ≡ t = ap held s3.kept ∙ k2 in
    let k4 : (o.state c.add_paths-2.new.source).held ≡ t = ap held s4.kept ∙ k3 in
    let told2 = s2.call.same_kind ∙ told in
    let told3 = s3.call.same_kind ∙ told2 in
    let told4 = s4.call.same_kind ∙ told3 in
    told_due bytes due t (reached (has_path c.args.going.now)) c.args.notes.now c.add_accounts.new.notes c.add_records.new.notes c.add_paths.new.notes c.add_paths-2.new.notes c.add_paths-3.new.notes c.args.due.now.accounts.now refl
    (record {
      none = c.requires.none;
      account = c.in_ok-add_accounts.ensures.noted bytes due refl;
      record_ = c.in_ok-add_records.ensures.found told bytes due refl;
      renew = subst (λ (x : Image). Adds bytes due c.add_records.new.notes c.add_paths.new.notes due.renewed (λ q. role_said role.Renewed (x.look q))) k2 (c.in_ok-add_paths.ensures.found told2 bytes due);
      folder = subst (λ (x : Image). Adds bytes due c.add_paths.new.notes c.add_paths-2.new.notes due.folders (λ q. role_said role.Folder (x.look q))) k3 (c.in_ok-add_paths-2.ensures.found told3 bytes due);
      go = subst (λ (x : Image). Adds bytes due c.add_paths-2.new.notes c.add_paths-3.new.notes due.gone (λ q. role_said role.Gone (x.look q))) k4 (c.in_ok-add_paths-3.ensures.found told4 bytes due);
    }) c.requires.going
