use Rattle.std.proofs.Common.{◌≡◌, false, codes, List, ℕ, Some, [], sym, ◌∙◌, ap, true, IsTrue, arith}
use Rattle.ips_steps.specs.Steps.{stage_path}
use Rattle.ips_outside.proofs.Placed.{look_placed}
use Rattle.ips_outside.specs.Change.{joined}
use Rattle.ips_rehearse.specs.Rehearsed.{HasNamed}
use Rattle.ips_rehearse.proofs.Passing.{pass_call, pass_then, passed_by, stood_as, stood_within}
use Rattle.ips_text.specs.Ancestry.{covers, is_below, parent}
use Rattle.ips_outside.specs.Image.{File, is_file}
use Rattle.ips_outside.specs.State.{State}
use Rattle.ips_outside.proofs.Trees.{on_ok_to}
use Rattle.ips_folder.proofs.Runs.{keeps_then, keeps_wider}
use Rattle.ips_rehearse.specs.Tried.{try_name, IsEmptyDir, IsNamed, Passed}
use Rattle.ips_rehearse.proofs.Paths.{link_path, first_path, plain_path, link_parent, plain_parent, link_apart, first_is, link_is}
use Rattle.ips_rehearse.proofs.Trials.{wrote_in, off_child, can_make, can_make_beside, empty_again, empty_beside, on_ok}
use Rattle.ips_rehearse.proofs.rehearsing.try_name_of.Goals as goal

pub go-requires-clause-path : goal.go-requires-clause-path
go-requires-clause-path g c = link_path

pub go-requires-then-contents-gt0-clause-path : goal.go-requires-then-contents-gt0-clause-path
go-requires-then-contents-gt0-clause-path g c = first_path

pub go-requires-2-clause-path : goal.go-requires-2-clause-path
go-requires-2-clause-path g c = plain_path

-- ---- with a content

pub try_hard-requires-clause-can : goal.try_hard-requires-clause-can
try_hard-requires-clause-can g c = λ told.
    can_make try_name c.go.new.path.bytes (g.F.Source.outside.state c.args.folder.now).held (ap parent c.go.ensures.there ∙ link_parent) (c.requires.empty told)

pub try_hard-requires-clause-file : goal.try_hard-requires-clause-file
try_hard-requires-clause-file g c = λ told.
    ap (λ (p : List ℕ). is_file ((g.F.Source.outside.state c.args.folder.now).held.look p)) (c.go-then-contents-gt0.ensures.there ∙ first_is) ∙ c.requires.first told c.if-contents-gt0.true

pub returns-then-contents-gt0-clause-empty : goal.returns-then-contents-gt0-clause-empty
returns-then-contents-gt0-clause-empty g c = λ told.
    let o = g.F.Source.outside in
    let p = c.go.new.path.bytes in
    on_ok_to c.try_hard.result (IsEmptyDir try_name (o.state c.try_hard.new.folder).held)
    (λ gone. empty_again try_name p (o.state c.args.folder.now).held (o.state c.try_hard.new.folder).held (ap parent c.go.ensures.there ∙ link_parent) (c.requires.empty told) (c.try_hard.ensures.any_moment told).now.agrees gone)
    (c.try_hard.ensures.gone told)

pub returns-then-contents-gt0-clause-any_moment : goal.returns-then-contents-gt0-clause-any_moment
returns-then-contents-gt0-clause-any_moment g c = λ told.
    let p = c.go.new.path.bytes in
    let off = off_child try_name p (ap parent c.go.ensures.there ∙ link_parent) in
    keeps_wider g.F.Source.outside (covers p) (covers p) (is_below try_name) (is_below try_name) c.args.folder.now c.try_hard.new.folder off off (c.try_hard.ensures.any_moment told)

-- ---- with a file of its own

pub make_file-requires : goal.make_file-requires
make_file-requires g c = λ told.
    can_make try_name c.go-2.new.path.bytes (g.F.Source.outside.state c.args.folder.now).held (ap parent c.go-2.ensures.there ∙ plain_parent) (c.requires.empty told)

pub try_hard-requires-2-clause-can : goal.try_hard-requires-2-clause-can
try_hard-requires-2-clause-can g c = λ told_now.
    let o = g.F.Source.outside in
    let told = sym c.make_file.ensures.call.same_kind ∙ told_now in
    let apart : covers c.go-2.new.path.bytes c.go.new.path.bytes ≡ false = ap (λ (r : List ℕ). covers r c.go.new.path.bytes) c.go-2.ensures.there ∙ ap (covers (codes "var/pkg/stage/try/file")) c.go.ensures.there ∙ link_apart in
    can_make_beside try_name c.go.new.path.bytes c.go-2.new.path.bytes (Some (File 384 [])) (o.state c.args.folder.now).held (o.state c.make_file.new.self).held
    (ap parent c.go.ensures.there ∙ link_parent) (ap parent c.go-2.ensures.there ∙ plain_parent) apart (c.requires.empty told) (ap (λ (s : State). s.held) (c.in_ok-make_file.ensures.done told))

pub returns-in_err-make_file-clause-any_moment : goal.returns-in_err-make_file-clause-any_moment
returns-in_err-make_file-clause-any_moment g c = λ told.
    let r = c.go-2.new.path.bytes in
    wrote_in g.F.Source.outside g.met.F.Source.sane (is_below try_name) (is_below try_name) r (off_child try_name r (ap parent c.go-2.ensures.there ∙ plain_parent)) c.args.folder.now c.make_file.new.self _ c.make_file.result told c.make_file.ensures

pub returns-in_err-try_hard-clause-any_moment : goal.returns-in_err-try_hard-clause-any_moment
returns-in_err-try_hard-clause-any_moment g c = λ told.
    let o = g.F.Source.outside in
    let p = c.go.new.path.bytes in
    let r = c.go-2.new.path.bytes in
    let off = off_child try_name p (ap parent c.go.ensures.there ∙ link_parent) in
    keeps_then o (is_below try_name) (is_below try_name) c.args.folder.now c.make_file.new.self c.try_hard-2.new.folder
    (wrote_in o g.met.F.Source.sane (is_below try_name) (is_below try_name) r (off_child try_name r (ap parent c.go-2.ensures.there ∙ plain_parent)) c.args.folder.now c.make_file.new.self _ c.make_file.result told c.make_file.ensures)
    (keeps_wider o (covers p) (covers p) (is_below try_name) (is_below try_name) c.make_file.new.self c.try_hard-2.new.folder off off (c.try_hard-2.ensures.any_moment (c.make_file.ensures.call.same_kind ∙ told)))

pub returns-clause-any_moment : goal.returns-clause-any_moment
returns-clause-any_moment g c = λ told.
    let o = g.F.Source.outside in
    let p = c.go.new.path.bytes in
    let r = c.go-2.new.path.bytes in
    let off = off_child try_name p (ap parent c.go.ensures.there ∙ link_parent) in
    let off_r = off_child try_name r (ap parent c.go-2.ensures.there ∙ plain_parent) in
    let told_1 = c.make_file.ensures.call.same_kind ∙ told in
    keeps_then o (is_below try_name) (is_below try_name) c.args.folder.now c.try_hard-2.new.folder c.remove.new.self
    (keeps_then o (is_below try_name) (is_below try_name) c.args.folder.now c.make_file.new.self c.try_hard-2.new.folder
    (wrote_in o g.met.F.Source.sane (is_below try_name) (is_below try_name) r off_r c.args.folder.now c.make_file.new.self _ c.make_file.result told c.make_file.ensures)
    (keeps_wider o (covers p) (covers p) (is_below try_name) (is_below try_name) c.make_file.new.self c.try_hard-2.new.folder off off (c.try_hard-2.ensures.any_moment told_1)))
    (wrote_in o g.met.F.Source.sane (is_below try_name) (is_below try_name) r off_r c.try_hard-2.new.folder c.remove.new.self _ c.remove.result (c.try_hard-2.ensures.calls.same_kind ∙ told_1) c.remove.ensures)

pub returns-clause-empty : goal.returns-clause-empty
returns-clause-empty g c = λ told.
    let o = g.F.Source.outside in
    let sane = g.met.F.Source.sane in
    let p = c.go.new.path.bytes in
    let r = c.go-2.new.path.bytes in
    let told_1 = c.make_file.ensures.call.same_kind ∙ told in
    let told_2 = c.try_hard-2.ensures.calls.same_kind ∙ told_1 in
    let apart : covers r p ≡ false = ap (λ (x : List ℕ). covers x p) c.go-2.ensures.there ∙ ap (covers (codes "var/pkg/stage/try/file")) c.go.ensures.there ∙ link_apart in
    on_ok_to c.remove.result (IsEmptyDir try_name (o.state c.remove.new.self).held)
    (λ done. empty_beside try_name p r (o.state c.args.folder.now).held (o.state c.make_file.new.self).held (o.state c.try_hard-2.new.folder).held (o.state c.remove.new.self).held
    (ap parent c.go.ensures.there ∙ link_parent) (ap parent c.go-2.ensures.there ∙ plain_parent) apart (c.requires.empty told)
    (wrote_in o sane (covers r) (covers r) r (λ q off. off) c.args.folder.now c.make_file.new.self _ c.make_file.result told c.make_file.ensures).now.agrees
    (c.try_hard-2.ensures.any_moment told_1).now.agrees (c.in_ok-try_hard.ensures.gone told_1) (ap (λ (s : State). s.held) done)
    (wrote_in o sane (covers r) (covers r) r (λ q off. off) c.try_hard-2.new.folder c.remove.new.self _ c.remove.result told_2 c.remove.ensures).now.agrees)
    (c.remove.ensures.done told_2)

-- ---- the further name

pub returns-then-contents-gt0-clause-seen : goal.returns-then-contents-gt0-clause-seen
returns-then-contents-gt0-clause-seen g c = λ told.
    let o = g.F.Source.outside in
    let a = c.args.folder.now in
    let b = c.try_hard.new.folder in
    let t = (o.state a).held in
    let p = c.go.new.path.bytes in
    let r = c.go-then-contents-gt0.new.path.bytes in
    let there : r ≡ stage_path 0 = c.go-then-contents-gt0.ensures.there ∙ first_is in
    let stands : is_file (t.look r) ≡ true = ap (λ (x : List ℕ). is_file (t.look x)) there ∙ c.requires.first told c.if-contents-gt0.true in
    on_ok_to c.try_hard.result (Passed o a b × (IsTrue c.args.is_asked → HasNamed o c.args.contents a b))
    (λ seen. (
      passed_by o a b (λ u. u ≡ joined p r t) seen,
      λ asked. record {
        to = r;
        content = λ some. there;
        named = stood_as o a b (λ u. u ≡ joined p r t) (IsNamed r) (λ u is. record { before = t; file = stands; named = is ∙ ap (λ (x : List ℕ). joined x r t) (c.go.ensures.there ∙ link_is) }) seen;
      },
    ))
    (c.try_hard.ensures.seen told)

pub returns-clause-seen : goal.returns-clause-seen
returns-clause-seen g c = λ told.
    let o = g.F.Source.outside in
    let a = c.make_file.new.self in
    let b = c.try_hard-2.new.folder in
    let t = (o.state a).held in
    let p = c.go.new.path.bytes in
    let r = c.go-2.new.path.bytes in
    let told_1 = c.make_file.ensures.call.same_kind ∙ told in
    let before = pass_call o c.args.folder.now a _ c.make_file.ensures.call in
    let behind = pass_call o b c.remove.new.self _ c.remove.ensures.call in
    let seen = c.in_ok-try_hard.ensures.seen told_1 in
    let stands : is_file (t.look r) ≡ true = ap (λ (s : State). is_file (s.held.look r)) (c.in_ok-make_file.ensures.done told) ∙ ap is_file (look_placed r (Some (File 384 [])) (o.state c.args.folder.now).held) in
    on_ok _ (
      pass_then o c.args.folder.now a c.remove.new.self before (pass_then o a b c.remove.new.self (passed_by o a b (λ u. u ≡ joined p r t) seen) behind),
      λ asked. record {
        to = r;
        content = λ some. absurd (omega (arith, some, c.if-contents-gt0.false));
        named = stood_within o c.args.folder.now a b c.remove.new.self (IsNamed r) before behind
            (stood_as o a b (λ u. u ≡ joined p r t) (IsNamed r) (λ u is. record { before = t; file = stands; named = is ∙ ap (λ (x : List ℕ). joined x r t) (c.go.ensures.there ∙ link_is) }) seen);
      },
    ) c.remove.result
