use Rattle.std.proofs.Common.{◌≡◌, ℕ, true, List, refl, sym, ◌∙◌, ap, subst, arith}
use Rattle.std.specs.List.{list_any}
use Rattle.ips_text.specs.Ancestry.{covers}
use Rattle.ips_outside.specs.State.{State, IsSettled, nowhere}
use Rattle.ips_outside.proofs.Reading.{answered}
use Rattle.ips_folder.proofs.Runs.{begun, keeps_then, one_sync}
use Rattle.ips_steps.specs.Private.{mark_front, begins, mark_name}
use Rattle.ips_commit.specs.Pending.{mark_names}
use Rattle.ips_commit.proofs.Marked.{mark_own}
use Rattle.ips_commit.proofs.Numbered.{gone_numbered}
use Rattle.ips_commit.proofs.Swept.{off_mark, removed_none}
use Rattle.ips_contents.proofs.Wrote.{wrote_then}
use Rattle.ips_commit.proofs.gate.unmark.Goals as goal

own_path : (p : List ℕ) (n : ℕ) → p ≡ mark_name n → begins mark_front p ≡ true
own_path p n is = ap (begins mark_front) is ∙ mark_own n

pub loop-before-init : goal.loop-before-init
loop-before-init g c = record {
  path = c.requires.path;
  kind = refl;
  faults = refl;
  changes = omega arith;
  gone = λ told q is. cc;
  nothing_new = λ told q none. none;
  moments = λ told. begun g.F.Source.outside (begins mark_front) nowhere c.args.folder.now (g.met.F.Source.sane.only_now c.args.folder.now);
}

pub returns-in_err-remove-clause-any_moment : goal.returns-in_err-remove-clause-any_moment
returns-in_err-remove-clause-any_moment g c = λ told.
    let p = c.set_mark.new.path.bytes in
    wrote_then g.F.Source.outside g.met.F.Source.sane (begins mark_front) p (off_mark p (own_path p _ c.set_mark.ensures.named)) c.args.folder.now c.loop-before.folder c.remove.new.self _ c.remove.result
    (c.loop-before.invariant.moments told) (c.loop-before.invariant.kind ∙ told) c.remove.ensures

pub loop-before-preserved : goal.loop-before-preserved
loop-before-preserved g c =
    let o = g.F.Source.outside in
    let inv = c.loop-before.invariant in
    let p = c.set_mark.new.path.bytes in
    record {
      path = c.set_mark.ensures.room;
      kind = c.remove.ensures.call.same_kind ∙ inv.kind;
      faults = c.remove.ensures.call.cause.steady (answered c.remove.result _ c.in_ok-remove.was) ∙ inv.faults;
      changes = omega (arith, inv.changes, c.remove.ensures.one_made.later);
      gone = λ told q. gone_numbered c.loop-before.before p (o.state c.loop-before.folder).held (o.state c.remove.new.self).held q c.set_mark.ensures.named
          (ap (λ (s : State). s.held) (c.in_ok-remove.ensures.done (inv.kind ∙ told))) (inv.gone told q);
      nothing_new = λ told q none. ap (λ (s : State). s.held.look q) (c.in_ok-remove.ensures.done (inv.kind ∙ told)) ∙ removed_none p q (o.state c.loop-before.folder).held (inv.nothing_new told q none);
      moments = λ told. wrote_then o g.met.F.Source.sane (begins mark_front) p (off_mark p (own_path p _ c.set_mark.ensures.named)) c.args.folder.now c.loop-before.folder c.remove.new.self _ c.remove.result
          (inv.moments told) (inv.kind ∙ told) c.remove.ensures;
    }

pub returns-in_err-sync-clause-any_moment : goal.returns-in_err-sync-clause-any_moment
returns-in_err-sync-clause-any_moment g c = λ told.
    keeps_then g.F.Source.outside (begins mark_front) nowhere c.args.folder.now c.loop-before.folder c.sync.new.self (c.loop-before.invariant.moments told)
    (one_sync g.F.Source.outside g.met.F.Source.sane (begins mark_front) nowhere c.loop-before.folder c.sync.new.self c.sync.result (c.loop-before.invariant.kind ∙ told) c.sync.ensures)

pub returns-clause-any_moment : goal.returns-clause-any_moment
returns-clause-any_moment g c = λ told.
    keeps_then g.F.Source.outside (begins mark_front) nowhere c.args.folder.now c.loop-before.folder c.sync.new.self (c.loop-before.invariant.moments told)
    (one_sync g.F.Source.outside g.met.F.Source.sane (begins mark_front) nowhere c.loop-before.folder c.sync.new.self c.sync.result (c.loop-before.invariant.kind ∙ told) c.sync.ensures)

pub returns-clause-gone : goal.returns-clause-gone
returns-clause-gone g c = λ told q is.
    let all : c.loop-before.before ≡ c.args.marks = omega arith in
    ap (λ (s : State). s.held.look q) (c.in_ok-sync.ensures.done (c.loop-before.invariant.kind ∙ told)) ∙ c.loop-before.invariant.gone told q (subst (λ (k : ℕ). list_any (λ m. covers m q) (mark_names k) ≡ true) (sym all) is)

pub returns-clause-nothing_new : goal.returns-clause-nothing_new
returns-clause-nothing_new g c = λ told q none.
    ap (λ (s : State). s.held.look q) (c.in_ok-sync.ensures.done (c.loop-before.invariant.kind ∙ told)) ∙ c.loop-before.invariant.nothing_new told q none

pub returns-clause-safe : goal.returns-clause-safe
returns-clause-safe g c = λ told. subst IsSettled (sym (c.in_ok-sync.ensures.done (c.loop-before.invariant.kind ∙ told))) (record { whole = λ q. refl; modes = λ q. refl })
