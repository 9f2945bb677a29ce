use Rattle.std.proofs.Common.{◌≡◌, false, List, ℕ, sym, ◌∙◌, ap, subst}
use Rattle.std.proofs.lemmas.List.Elements.{All-weaker}
use Rattle.ips_rehearse.specs.Plans.{is_made}
use Rattle.ips_rehearse.specs.Going.{IsFound}
use Rattle.ips_rehearse.specs.Rehearsed.{HasTriedGoing}
use Rattle.ips_rehearse.proofs.Passing.{modes_within, pass_call, pass_then, tried_within}
use Rattle.ips_text.specs.Ancestry.{covers, is_below}
use Rattle.ips_text.proofs.Ancestry.{covers-self}
use Rattle.ips_outside.specs.Image.{is_dir, is_file, has_parent, dir_or_none}
use Rattle.ips_outside.specs.State.{State}
use Rattle.ips_steps.specs.Steps.{stage_name, stage_path}
use Rattle.ips_folder.proofs.Runs.{keeps_then, keeps_wider, one_read}
use Rattle.ips_rehearse.specs.Tried.{try_name, IsEmptyDir, IsGone}
use Rattle.ips_rehearse.proofs.Paths.{try_path, try_is, try_parent, first_apart}
use Rattle.ips_rehearse.proofs.Trials.{wrote_in, made_dir, is_gone, off_below}
use Rattle.ips_rehearse.proofs.rehearsing.try_steps.Goals as goal

at_try : (p : List ℕ) → p ≡ try_name → (q : List ℕ) → covers try_name q ≡ false → covers p q ≡ false
at_try p at q off = ap (λ (x : List ℕ). covers x q) at ∙ off

pub go-requires-clause-path : goal.go-requires-clause-path
go-requires-clause-path g c = try_path

pub make_dir-requires-clause-can : goal.make_dir-requires-clause-can
make_dir-requires-clause-can g c = λ told_now.
    let o = g.F.Source.outside in
    let told = sym c.ask.ensures.reads.call.same_kind ∙ told_now in
    let p = c.go.new.path.bytes in
    let at : p ≡ try_name = c.go.ensures.there ∙ try_is in
    let kept = c.ask.ensures.reads.kept in
    record {
      absent = ap (λ (s : State). s.held.look p) kept ∙ ap (o.state c.args.folder.now).held.look at ∙ c.requires.free told try_name (covers-self try_name);
      parent = ap (has_parent (o.state c.ask.new.folder).held) at ∙ ap (dir_or_none (o.state c.ask.new.folder).held) try_parent ∙ ap (λ (s : State). is_dir (s.held.look stage_name)) kept ∙ c.requires.stage told;
    }

pub returns-in_default-clause-any_moment : goal.returns-in_default-clause-any_moment
returns-in_default-clause-any_moment g c = λ told.
    let o = g.F.Source.outside in
    let sane = g.met.F.Source.sane in
    let p = c.go.new.path.bytes in
    keeps_then o (covers try_name) (covers try_name) c.args.folder.now c.ask.new.folder c.make_dir.new.self (one_read o sane (covers try_name) (covers try_name) c.args.folder.now c.ask.new.folder _ c.ask.ensures.reads)
    (wrote_in o sane (covers try_name) (covers try_name) p (at_try p (c.go.ensures.there ∙ try_is)) c.ask.new.folder c.make_dir.new.self _ c.make_dir.result (c.ask.ensures.reads.call.same_kind ∙ told) c.make_dir.ensures)

pub try_within-requires-clause-empty : goal.try_within-requires-clause-empty
try_within-requires-clause-empty g c = λ told_now.
    let o = g.F.Source.outside in
    let told_1 = sym c.make_dir.ensures.call.same_kind ∙ told_now in
    subst (λ (p : List ℕ). IsEmptyDir p (o.state c.make_dir.new.self).held) (c.go.ensures.there ∙ try_is)
    (made_dir c.go.new.path.bytes 448 (o.state c.ask.new.folder).held (o.state c.make_dir.new.self).held (ap (λ (s : State). s.held) (c.in-Ok.ensures.done told_1)))

pub try_within-requires-clause-first : goal.try_within-requires-clause-first
try_within-requires-clause-first g c = λ told_now some.
    let o = g.F.Source.outside in
    let told_1 = sym c.make_dir.ensures.call.same_kind ∙ told_now in
    let told = sym c.ask.ensures.reads.call.same_kind ∙ told_1 in
    let p = c.go.new.path.bytes in
    let run = wrote_in o g.met.F.Source.sane (covers try_name) (covers try_name) p (at_try p (c.go.ensures.there ∙ try_is)) c.ask.new.folder c.make_dir.new.self _ c.make_dir.result told_1 c.make_dir.ensures in
    ap is_file (run.now.agrees.look (stage_path 0) first_apart first_apart) ∙ ap (λ (s : State). is_file (s.held.look (stage_path 0))) c.ask.ensures.reads.kept ∙ c.requires.first told some

pub returns-in_err-try_within-clause-any_moment : goal.returns-in_err-try_within-clause-any_moment
returns-in_err-try_within-clause-any_moment g c = λ told.
    let o = g.F.Source.outside in
    let sane = g.met.F.Source.sane in
    let p = c.go.new.path.bytes in
    let told_1 = c.ask.ensures.reads.call.same_kind ∙ told in
    let told_2 = c.make_dir.ensures.call.same_kind ∙ told_1 in
    keeps_then o (covers try_name) (covers try_name) c.args.folder.now c.make_dir.new.self c.try_within.new.folder
    (keeps_then o (covers try_name) (covers try_name) c.args.folder.now c.ask.new.folder c.make_dir.new.self (one_read o sane (covers try_name) (covers try_name) c.args.folder.now c.ask.new.folder _ c.ask.ensures.reads)
    (wrote_in o sane (covers try_name) (covers try_name) p (at_try p (c.go.ensures.there ∙ try_is)) c.ask.new.folder c.make_dir.new.self _ c.make_dir.result told_1 c.make_dir.ensures))
    (keeps_wider o (is_below try_name) (is_below try_name) (covers try_name) (covers try_name) c.make_dir.new.self c.try_within.new.folder (off_below try_name) (off_below try_name) (c.try_within.ensures.any_moment told_2))

pub returns-in_default-remove-clause-any_moment : goal.returns-in_default-remove-clause-any_moment
returns-in_default-remove-clause-any_moment g c = λ told.
    let o = g.F.Source.outside in
    let sane = g.met.F.Source.sane in
    let p = c.go.new.path.bytes in
    let told_1 = c.ask.ensures.reads.call.same_kind ∙ told in
    let told_2 = c.make_dir.ensures.call.same_kind ∙ told_1 in
    keeps_then o (covers try_name) (covers try_name) c.args.folder.now c.try_within.new.folder c.remove.new.self
    (keeps_then o (covers try_name) (covers try_name) c.args.folder.now c.make_dir.new.self c.try_within.new.folder
    (keeps_then o (covers try_name) (covers try_name) c.args.folder.now c.ask.new.folder c.make_dir.new.self (one_read o sane (covers try_name) (covers try_name) c.args.folder.now c.ask.new.folder _ c.ask.ensures.reads)
    (wrote_in o sane (covers try_name) (covers try_name) p (at_try p (c.go.ensures.there ∙ try_is)) c.ask.new.folder c.make_dir.new.self _ c.make_dir.result told_1 c.make_dir.ensures))
    (keeps_wider o (is_below try_name) (is_below try_name) (covers try_name) (covers try_name) c.make_dir.new.self c.try_within.new.folder (off_below try_name) (off_below try_name) (c.try_within.ensures.any_moment told_2)))
    (wrote_in o sane (covers try_name) (covers try_name) c.go-2.new.path.bytes (at_try c.go-2.new.path.bytes (c.go-2.ensures.there ∙ try_is)) c.try_within.new.folder c.remove.new.self _ c.remove.result (c.try_within.ensures.calls.same_kind ∙ told_2) c.remove.ensures)

pub returns-clause-any_moment : goal.returns-clause-any_moment
returns-clause-any_moment g c = λ told.
    let o = g.F.Source.outside in
    let sane = g.met.F.Source.sane in
    let p = c.go.new.path.bytes in
    let told_1 = c.ask.ensures.reads.call.same_kind ∙ told in
    let told_2 = c.make_dir.ensures.call.same_kind ∙ told_1 in
    keeps_then o (covers try_name) (covers try_name) c.args.folder.now c.try_within.new.folder c.remove.new.self
    (keeps_then o (covers try_name) (covers try_name) c.args.folder.now c.make_dir.new.self c.try_within.new.folder
    (keeps_then o (covers try_name) (covers try_name) c.args.folder.now c.ask.new.folder c.make_dir.new.self (one_read o sane (covers try_name) (covers try_name) c.args.folder.now c.ask.new.folder _ c.ask.ensures.reads)
    (wrote_in o sane (covers try_name) (covers try_name) p (at_try p (c.go.ensures.there ∙ try_is)) c.ask.new.folder c.make_dir.new.self _ c.make_dir.result told_1 c.make_dir.ensures))
    (keeps_wider o (is_below try_name) (is_below try_name) (covers try_name) (covers try_name) c.make_dir.new.self c.try_within.new.folder (off_below try_name) (off_below try_name) (c.try_within.ensures.any_moment told_2)))
    (wrote_in o sane (covers try_name) (covers try_name) c.go-2.new.path.bytes (at_try c.go-2.new.path.bytes (c.go-2.ensures.there ∙ try_is)) c.try_within.new.folder c.remove.new.self _ c.remove.result (c.try_within.ensures.calls.same_kind ∙ told_2) c.remove.ensures)

pub returns-clause-gone : goal.returns-clause-gone
returns-clause-gone g c = λ told.
    let o = g.F.Source.outside in
    let told_3 = c.try_within.ensures.calls.same_kind ∙ c.make_dir.ensures.call.same_kind ∙ c.ask.ensures.reads.call.same_kind ∙ told in
    subst (λ (p : List ℕ). IsGone p (o.state c.remove.new.self).held) (c.go-2.ensures.there ∙ try_is)
    (is_gone c.go-2.new.path.bytes (o.state c.try_within.new.folder).held (o.state c.remove.new.self).held (ap (λ (s : State). s.held) (c.in-Ok-remove.ensures.done told_3)))

pub go-requires-2-clause-path : goal.go-requires-2-clause-path
go-requires-2-clause-path g c = try_path

pub returns-clause-seen : goal.returns-clause-seen
returns-clause-seen g c = λ told.
    let o = g.F.Source.outside in
    let f0 = c.args.folder.now in
    let f1 = c.ask.new.folder in
    let f2 = c.make_dir.new.self in
    let f3 = c.try_within.new.folder in
    let f4 = c.remove.new.self in
    let steps = c.args.steps.now in
    let modes = c.in_ok-modes.modes in
    let told_2 = c.make_dir.ensures.call.same_kind ∙ c.ask.ensures.reads.call.same_kind ∙ told in
    let before = pass_then o f0 f1 f2 (pass_call o f0 f1 _ c.ask.ensures.reads.call) (pass_call o f1 f2 _ c.make_dir.ensures.call) in
    let behind = pass_call o f3 f4 _ c.remove.ensures.call in
    let seen = c.in_ok-try_within.ensures.seen told_2 in
    let all = modes_within o f0 f2 f3 f4 modes.worked.has modes.dirs.has modes.files.has before behind seen.2 in
    record {
      tried = tried_within o steps c.args.contents f0 f2 f3 f4 before behind seen.1;
      given = λ m gives. all.works m (c.in_ok-modes.ensures.worked m gives);
      standing = λ q m f first there. all.works m (c.in_ok-modes.ensures.standing told q m f first there);
      going = All-weaker (IsFound (o.state f0).held (is_made steps) modes.worked.has) (HasTriedGoing o (is_made steps) f0 f4) (λ s h m f d q may up there child. all.works m (h m f d q may up there child)) steps (c.in_ok-modes.ensures.going told);
      dirs = λ m gives. all.makes m (c.in_ok-modes.ensures.dirs m ∙ gives);
      files = λ m gives. all.sets m (c.in_ok-modes.ensures.files m ∙ gives);
    }
