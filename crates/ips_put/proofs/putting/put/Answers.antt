use Rattle.std.proofs.Common.{◌≡◌, ◌⊎◌, inr, true, false, Result, Err, sym, ap, subst, ◌∙◌, rules, arith}
use Rattle.ips_text.specs.declared.refusal.Or.{Or}
use Rattle.ips_text.specs.declared.refusal.Or.TheVariants.{Bad}
use Rattle.ips_text.specs.Reading.{IfBad}
use Rattle.ips_outside.specs.Outside.{HasCause}
use Rattle.ips_commit.specs.declared.fault.CommitFault.{CommitFault}
use Rattle.ips_commit.specs.declared.fault.CommitFault.TheVariants as commit
use Rattle.std.specs.Prelude.{map, Some, None}
use Rattle.ips_steps.specs.Steps.{all_laid}
use Rattle.ips_steps.specs.Private.{visible}
use Rattle.ips_steps.specs.View.{step_of}
use Rattle.ips_put.specs.Putting.{IsMeant}
use Rattle.ips_put.proofs.Puts.{can_open, unmarked, only_folder, unstaged_cause, unstaged_sound, unput_begun, meant_by, put_none, put_ready, seen_given}
use Rattle.ips_put.proofs.putting.put.Goals as goal

pub stage-requires-clause-seen : goal.stage-requires-clause-seen
stage-requires-clause-seen g c = seen_given c.args.staged.now c.requires.given

pub commit-requires-clause-gate : goal.commit-requires-clause-gate
commit-requires-clause-gate g c = λ told.
    let staged = c.in-Ok.ensures.staged (sym c.stage.ensures.stages.same_kind ∙ told) in
    can_open _ _ (g.F.Source.outside.state c.stage.new.folder) (g.met.F.Source.sane.formed c.stage.new.folder told) staged.is

pub commit-requires-clause-unmarked : goal.commit-requires-clause-unmarked
commit-requires-clause-unmarked g c = λ told.
    let staged = c.in-Ok.ensures.staged (sym c.stage.ensures.stages.same_kind ∙ told) in
    unmarked _ _ (g.F.Source.outside.state c.stage.new.folder) staged.is

pub returns-in-Err-clause-puts : goal.returns-in-Err-clause-puts
returns-in-Err-clause-puts g c = λ told clean.
    put_none g.F.Source.outside _ c.args.folder.now c.stage.new.folder (c.stage.ensures.owed told clean None)

pub returns-in-Err-clause-cause : goal.returns-in-Err-clause-cause
returns-in-Err-clause-cause g c =
    let stages = c.in-Err.ensures.stages in
    subst (λ (e : Or CommitFault). HasCause (g.F.Source.outside.faults c.args.folder.now) (g.F.Source.outside.faults c.stage.new.folder)
    (((let r : Result (Unit {0}) (Or CommitFault) = Err e in r) ≡ Err (Bad commit.Unchanged)) ⊎ ((let r : Result (Unit {0}) (Or CommitFault) = Err e in r) ≡ Err (Bad commit.Unfinished)))) (sym c.unstaged.ensures)
    (unstaged_cause _ _ c.in-Err.fault (only_folder _ _ c.args.staged.now c.in-Err.fault c.requires.given stages.refused stages.reads.call.cause) stages.cause)

pub returns-in-Ok-commit-clause-puts : goal.returns-in-Ok-commit-clause-puts
returns-in-Ok-commit-clause-puts g c = λ told clean.
    let o = g.F.Source.outside in
    let steps = map step_of c.args.steps.now in
    let t = (o.state c.args.folder.now).held in
    let staged = c.in-Ok.ensures.staged told in
    let a = visible (all_laid staged.contents steps t) in
    let told_mid = c.stage.ensures.stages.same_kind ∙ told in
    put_ready o (IsMeant steps c.args.staged.now t) c.args.folder.now c.stage.new.folder c.commit.new.folder a true (meant_by true _ _ steps c.args.staged.now t (o.state c.stage.new.folder) c.requires.given staged)
    (c.stage.ensures.owed told clean (Some a)) (c.stage.ensures.seen told) (c.commit.ensures.commits.owed told_mid steps a staged.is) (λ is. (c.in-Ok-commit.ensures.commits.done told_mid steps a staged.is).1)

pub returns-clause-puts : goal.returns-clause-puts
returns-clause-puts g c = λ told clean.
    let o = g.F.Source.outside in
    let steps = map step_of c.args.steps.now in
    let t = (o.state c.args.folder.now).held in
    let staged = c.in-Ok.ensures.staged told in
    let a = visible (all_laid staged.contents steps t) in
    let told_mid = c.stage.ensures.stages.same_kind ∙ told in
    put_ready o (IsMeant steps c.args.staged.now t) c.args.folder.now c.stage.new.folder c.commit.new.folder a false (meant_by true _ _ steps c.args.staged.now t (o.state c.stage.new.folder) c.requires.given staged)
    (c.stage.ensures.owed told clean (Some a)) (c.stage.ensures.seen told) (c.commit.ensures.commits.owed told_mid steps a staged.is) (λ is. cc)

pub returns-in-Err-clause-nothing : goal.returns-in-Err-clause-nothing
returns-in-Err-clause-nothing g c = λ told clean unput. record { owed = c.stage.ensures.owed told clean None; seen = c.stage.ensures.seen told }

pub returns-in-Err-clause-faults : goal.returns-in-Err-clause-faults
returns-in-Err-clause-faults g c = λ told. subst (λ (e : Or CommitFault). IfBad {X = Unit {0}} (Err e) (λ why. (why ≡ commit.Unchanged) ⊎ (why ≡ commit.Unfinished))) (sym c.unstaged.ensures) (unstaged_sound c.in-Err.fault)

pub returns-clause-nothing : goal.returns-clause-nothing
returns-clause-nothing g c = λ told clean unput. absurd (unput_begun c.in-Err-commit.fault unput c.in-Err-commit.ensures.commits.begun)

pub returns-clause-faults : goal.returns-clause-faults
returns-clause-faults g c = λ told.
    let steps = map step_of c.args.steps.now in
    let staged = c.in-Ok.ensures.staged told in
    let a = visible (all_laid staged.contents steps (g.F.Source.outside.state c.args.folder.now).held) in
    inr (c.in-Err-commit.ensures.commits.faults (c.stage.ensures.stages.same_kind ∙ told) steps a staged.is)
