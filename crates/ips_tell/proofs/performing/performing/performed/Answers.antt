use Rattle.std.proofs.Common.{ℕ, Bool, IsTrue, IsFalse, sym, ◌∙◌, subst}
use Rattle.ips_outside.specs.Outside.{HasCause, Reads}
use Rattle.ips_commit.specs.Answers.{IsToldOrMasked}
use Rattle.ips_history.specs.Directories.{shows, image_for}
use Rattle.ips_history.specs.declared.effect.Effect.{Effect}
use Rattle.ips_report.specs.declared.outcome.Outcome.{Outcome}
use Rattle.ips_run.specs.Ending.{is_source_fault, is_spawn_fault}
use Rattle.ips_run.specs.Phases.{HasListed}
use Rattle.ips_tell.specs.told.Told.{IsToldAs, claims_failed, manner_of}
use Rattle.ips_tell.specs.telling.Finishing.{IsToldFor}
use Rattle.ips_tell.proofs.performing.Endings.{early_comes, comes_as, run_told, folder_alike, source_alike, spawner_alike, unfinished_alike, failed_alike, refused_alike, listed_as, says_less}
use Rattle.ips_tell.proofs.performing.performing.performed.Goals as goal

-- a fault of this object is told, or one of the folder in its place
abbrev Told : ℕ → ℕ → Bool → Bool → Effect → Type 0
Told before now told failed n = IsToldOrMasked before now (IsTrue told) (IsTrue failed × IsFalse (shows n))

pub returns-clause-performed : goal.returns-clause-performed
returns-clause-performed g c =
    let o = g.F.Source.outside in
    let q = g.S.Source.outside in
    let r = g.P.Spawner.running in
    let x = c.perform-ending.result in
    let e = c.perform-ending.ensures in
    let told = c.finish.result.outcome in
    let n = g.C.Operation.effect c.args.operation.now in
    let says = says_less (g.C.Operation.says c.args.operation.now) IsToldAs c.requires.says x e.says in
    let payload = e.payload in
    let as_told = subst (λ (is : Outcome). IsToldFor is told) c.outcome_of.ensures c.finish.ensures.outcome in record {
      run = λ tells. run_told o (g.C.Operation.means c.args.operation.now (q.tells c.args.repo.now) (q.state c.args.repo.now).held) (g.C.Operation.effect c.args.operation.now) x told says payload (λ early. (early_comes x (e.comes tells) early).0) as_told (e.run tells);
      comes = λ tells. comes_as x told says payload (e.comes tells) as_told;
      folder = subst (λ (b : Bool). HasCause (o.faults c.args.image.now) (o.faults c.perform-ending.new.folder) (IsTrue b)) (sym (folder_alike x told says payload as_told)) e.folder;
      source = subst (λ (b : Bool). Reads q c.args.repo.now c.perform-ending.new.source (Told (q.faults c.args.repo.now) (q.faults c.perform-ending.new.source) b (claims_failed (manner_of told)) n)) (sym (source_alike x told says payload as_told))
          (subst (λ (b : Bool). Reads q c.args.repo.now c.perform-ending.new.source (Told (q.faults c.args.repo.now) (q.faults c.perform-ending.new.source) (is_source_fault x) b n)) (sym (failed_alike x told says payload as_told)) e.source);
      spawner = subst (λ (b : Bool). HasCause (r.faults c.args.spawner.now) (r.faults c.perform-ending.new.spawner) (Told (r.faults c.args.spawner.now) (r.faults c.perform-ending.new.spawner) b (claims_failed (manner_of told)) n)) (sym (spawner_alike x told says payload as_told))
          (subst (λ (b : Bool). HasCause (r.faults c.args.spawner.now) (r.faults c.perform-ending.new.spawner) (Told (r.faults c.args.spawner.now) (r.faults c.perform-ending.new.spawner) (is_spawn_fault x) b n)) (sym (failed_alike x told says payload as_told)) e.spawner);
      shows_unasked = λ is. source_alike x told says payload as_told ∙ e.shows_unasked is;
      shows_unspawned = λ is. spawner_alike x told says payload as_told ∙ e.shows_unspawned is;
      begun = λ tells is. e.begun tells (sym (unfinished_alike x told says payload as_told) ∙ is);
      listed = λ tells is. listed_as (λ y. HasListed o (g.C.Operation.decides c.args.operation.now (q.tells c.args.repo.now) (q.state c.args.repo.now).held (image_for (g.C.Operation.effect c.args.operation.now) (o.state c.args.image.now).held)) y _ _ c.args.image.now c.perform-ending.new.folder) x told (e.listed tells) says payload as_told is;
      unopened = λ tells shut is. e.unopened tells shut (sym (refused_alike x told says payload as_told) ∙ is);
      unbegun = λ tells creates fixes is. e.unbegun tells creates fixes (sym (failed_alike x told says payload as_told) ∙ is);
      left = λ tells is unfailed. (e.left tells).no_more (sym (refused_alike x told says payload as_told) ∙ is) (sym (failed_alike x told says payload as_told) ∙ unfailed);
      shows_once = e.shows;
      untouched_once = λ tells stands is. e.untouched tells stands (sym (refused_alike x told says payload as_told) ∙ is);
      shows_kept = e.shows_kept;
      untouched_kept = λ tells stands is. e.untouched_kept tells stands (sym (refused_alike x told says payload as_told) ∙ is);
      same_kind = e.same_kind;
    }
