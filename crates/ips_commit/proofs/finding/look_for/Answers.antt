use Rattle.std.proofs.Common.{◌≡◌, true, List, ℕ, [], length, is_some, sym, ◌∙◌, ap, subst, rules}
use Rattle.ips_outside.specs.Image.{Image}
use Rattle.ips_outside.specs.Children.{path_bytes}
use Rattle.ips_outside.specs.State.{State}
use Rattle.ips_steps.specs.Private.{gate_name}
use Rattle.ips_commit.specs.Pending.{AreMarkNames}
use Rattle.ips_commit.proofs.Leftovers.{behind_at, gate_shut, left_behind, left_mark, nothing_of, none_listed, some_listed}
use Rattle.ips_commit.proofs.finding.look_for.Goals as goal

pub returns-then-is_left-clause-found : goal.returns-then-is_left-clause-found
returns-then-is_left-clause-found g c = λ told.
    let t = (g.F.Source.outside.state c.args.folder.now).held in
    let names = c.args.names.now in
    let gate : c.in-Ok.is_open ≡ is_some (t.look gate_name) = c.in-Ok.ensures.found told ∙ ap (λ (p : List ℕ). is_some (t.look p)) names.gate_is in
    let same : (g.F.Source.outside.state c.stands.new.folder).held ≡ t = ap (λ (s : State). s.held) c.stands.ensures.reads.kept in
    let behind = behind_at t (g.F.Source.outside.state c.stands.new.folder).held names.stage.bytes names.journal.bytes c.in-Ok-stands_behind.is_left same names.stage_is names.journal_is
    (c.in-Ok-stands_behind.ensures.found (c.stands.ensures.reads.call.same_kind ∙ told)) in
    (gate_shut t c.in-Ok.is_open gate c.if-is_open.false, left_behind t (sym behind ∙ c.if-is_left.true))

pub returns-then-is_empty-clause-found : goal.returns-then-is_empty-clause-found
returns-then-is_empty-clause-found g c = λ told.
    let t = (g.F.Source.outside.state c.args.folder.now).held in
    let names = c.args.names.now in
    let gate : c.in-Ok.is_open ≡ is_some (t.look gate_name) = c.in-Ok.ensures.found told ∙ ap (λ (p : List ℕ). is_some (t.look p)) names.gate_is in
    let same : (g.F.Source.outside.state c.stands.new.folder).held ≡ t = ap (λ (s : State). s.held) c.stands.ensures.reads.kept in
    let told_1 = c.stands.ensures.reads.call.same_kind ∙ told in
    let behind = behind_at t (g.F.Source.outside.state c.stands.new.folder).held names.stage.bytes names.journal.bytes c.in-Ok-stands_behind.is_left same names.stage_is names.journal_is
    (c.in-Ok-stands_behind.ensures.found told_1) in
    let here : (g.F.Source.outside.state c.stands_behind.new.folder).held ≡ t = ap (λ (s : State). s.held) c.stands_behind.ensures.reads.kept ∙ same in
    let empty : length c.in_ok-marks.marks.items ≡ 0 = search rules in
    let none : AreMarkNames t [] = subst (AreMarkNames t) (none_listed c.in_ok-marks.marks.items empty)
    (subst (λ (u : Image). AreMarkNames u (path_bytes c.in_ok-marks.marks.items)) here (c.in_ok-marks.ensures.found (c.stands_behind.ensures.reads.call.same_kind ∙ told_1))) in
    nothing_of t (g.met.F.Source.sane.formed c.args.folder.now told) (sym gate ∙ c.if-is_open.false) (sym behind ∙ c.if-is_left.false) none

pub returns-clause-found : goal.returns-clause-found
returns-clause-found g c = λ told.
    let t = (g.F.Source.outside.state c.args.folder.now).held in
    let names = c.args.names.now in
    let gate : c.in-Ok.is_open ≡ is_some (t.look gate_name) = c.in-Ok.ensures.found told ∙ ap (λ (p : List ℕ). is_some (t.look p)) names.gate_is in
    let same : (g.F.Source.outside.state c.stands.new.folder).held ≡ t = ap (λ (s : State). s.held) c.stands.ensures.reads.kept in
    let told_1 = c.stands.ensures.reads.call.same_kind ∙ told in
    let here : (g.F.Source.outside.state c.stands_behind.new.folder).held ≡ t = ap (λ (s : State). s.held) c.stands_behind.ensures.reads.kept ∙ same in
    let some : length c.in_ok-marks.marks.items ≡ 0 → ⊥ = λ none. let bad : c.is_empty.result ≡ true = search rules in let is_no = c.if-is_empty.false in cc in
    let are : AreMarkNames t (path_bytes c.in_ok-marks.marks.items) =
    subst (λ (u : Image). AreMarkNames u (path_bytes c.in_ok-marks.marks.items)) here (c.in_ok-marks.ensures.found (c.stands_behind.ensures.reads.call.same_kind ∙ told_1)) in
    (gate_shut t c.in-Ok.is_open gate c.if-is_open.false, left_mark t (path_bytes c.in_ok-marks.marks.items) c.in_ok-marks.ensures.own are (some_listed c.in_ok-marks.marks.items some))
