use Rattle.std.proofs.Common.{◌≡◌, false, List, ℕ, sym, ◌∙◌, ap, subst}
use Rattle.ips_text.specs.Kept.{Kept}
use Rattle.ips_outside.specs.Image.{Image, is_dir}
use Rattle.ips_outside.specs.Children.{path_bytes, AreChildren}
use Rattle.ips_outside.specs.State.{State}
use Rattle.std.specs.List.{filter}
use Rattle.ips_steps.specs.Private.{records_name, mark_front, begins}
use Rattle.ips_commit.specs.Pending.{AreMarkNames}
use Rattle.ips_commit.proofs.Leftovers.{marks_listed, marks_own, no_marks}
use Rattle.ips_commit.proofs.sweeping.marks.Goals as goal

pub returns-then-not-is_there-clause-found : goal.returns-then-not-is_there-clause-found
returns-then-not-is_there-clause-found g c = λ told.
    let t = (g.F.Source.outside.state c.args.folder.now).held in
    let none : is_dir (t.look records_name) ≡ false =
    ap (λ (p : List ℕ). is_dir (t.look p)) (sym c.args.names.now.records_is) ∙ sym (c.in-Ok.ensures.found told) ∙ c.if-not-is_there.true in
    subst (λ (items : List Kept). AreMarkNames t (path_bytes items)) (sym c.new.ensures.items) (no_marks t (g.met.F.Source.sane.formed c.args.folder.now told) none)

pub returns-in_ok-marks_among-in-Ok-list-clause-found : goal.returns-in_ok-marks_among-in-Ok-list-clause-found
returns-in_ok-marks_among-in-Ok-list-clause-found g c = λ told.
    let t = (g.F.Source.outside.state c.args.folder.now).held in
    let same : (g.F.Source.outside.state c.has_records.new.folder).held ≡ t = ap (λ (s : State). s.held) c.has_records.ensures.reads.kept in
    let listed = c.in-Ok-list.ensures.found (c.has_records.ensures.reads.call.same_kind ∙ told) in
    let are : AreChildren t records_name c.in-Ok-list.listing.names =
    subst (λ (u : Image). AreChildren u records_name c.in-Ok-list.listing.names) same
    (subst (λ (p : List ℕ). AreChildren (g.F.Source.outside.state c.has_records.new.folder).held p c.in-Ok-list.listing.names) c.args.names.now.records_is listed.children) in
    marks_listed t (g.met.F.Source.sane.formed c.args.folder.now told) c.in-Ok-list.listing.names (path_bytes c.in_ok-marks_among-in-Ok-list.field-0.items) are
    (subst (λ (l : List (List ℕ)). path_bytes c.in_ok-marks_among-in-Ok-list.field-0.items ≡ filter (begins mark_front) l) c.as_slice.ensures c.in_ok-marks_among-in-Ok-list.ensures)

pub returns-in_ok-marks_among-in-Ok-list-clause-own : goal.returns-in_ok-marks_among-in-Ok-list-clause-own
returns-in_ok-marks_among-in-Ok-list-clause-own g c =
    marks_own (path_bytes c.as_slice.result.now) (path_bytes c.in_ok-marks_among-in-Ok-list.field-0.items) c.in_ok-marks_among-in-Ok-list.ensures
