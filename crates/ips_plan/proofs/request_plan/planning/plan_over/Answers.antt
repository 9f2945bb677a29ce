use Rattle.std.proofs.Common.{◌≡◌, ◌⊎◌, Bool, inr, subst}
use Rattle.std.proofs.lemmas.Result.{IfOk-weaker}
use Rattle.ips_load.proofs.Answered.{bad_weaker}
use Rattle.ips_outside.proofs.Reading.{reads_as}
use Rattle.ips_account_files.specs.declared.ledger.fault.LedgerFault.TheVariants as ledger
use Rattle.ips_plan.specs.image_plan.Between.{given}
use Rattle.ips_plan.specs.request_plan.Causes.{IsUngiven}
use Rattle.ips_plan.specs.request_plan.Plans.{ComesBetween, HasNoSteps, IsPlanBetween, IsPlanWith, NoSteps}
use Rattle.ips_plan.specs.declared.request_plan.fault.PlanFault.TheVariants as fault
use Rattle.ips_plan.proofs.request_plan.Calls.{reads_behind, steps_no_source, surveyed_behind}
use Rattle.ips_plan.proofs.request_plan.Ungiven.{ungiven_comes}
use Rattle.ips_plan.proofs.request_plan.planning.plan_over.Goals as goal

pub plan_with-requires-clause-surveyed : goal.plan_with-requires-clause-surveyed
plan_with-requires-clause-surveyed g c = surveyed_behind g.F.Source.outside c.args.folder.now c.ledger_of.new.folder _ c.args.between c.args.rows.now c.in-Ok.ensures.reads c.requires.surveyed

pub returns-in-Ok : goal.returns-in-Ok
returns-in-Ok g c =
    let o = g.F.Source.outside in
    let around = given o g.S.Source.outside c.args.folder.now c.args.source.now c.args.between in
    let later = c.ledger_of.new.folder in
    let files = c.in-Ok.files in
    let planned = c.plan_with.ensures.planned in
    let refused = c.plan_with.ensures.refused in record {
      planned = IfOk-weaker c.plan_with.result (IsPlanWith (o.tells later) (o.state later).held c.args.moment.now c.args.between files c.args.accept) (IsPlanBetween around c.args.moment.now c.args.between c.args.accept)
          (λ p h. record {
            meant = c.requires.meant;
            files = files;
            are_files = c.in-Ok.ensures.files;
            is_plan = subst (λ (told : Bool). IsPlanWith told around.image c.args.moment.now c.args.between files c.args.accept p) c.in-Ok.ensures.reads.call.same_kind
                (subst (λ (s : _). IsPlanWith (o.tells later) s.held c.args.moment.now c.args.between files c.args.accept p) c.in-Ok.ensures.reads.kept h);
          }) planned;
      refused = bad_weaker c.plan_with.result (HasNoSteps (o.tells later) (o.state later).held c.args.moment.now c.args.between files c.args.accept)
          (λ why. (why ≡ fault.FolderFault) ⊎ ComesBetween around c.args.moment.now c.args.between c.args.accept why)
          (λ why h. inr (NoSteps files c.requires.meant c.in-Ok.ensures.files
          (subst (λ (told : Bool). HasNoSteps told around.image c.args.moment.now c.args.between files c.args.accept why) c.in-Ok.ensures.reads.call.same_kind
          (subst (λ (s : _). HasNoSteps (o.tells later) s.held c.args.moment.now c.args.between files c.args.accept why) c.in-Ok.ensures.reads.kept h))))
          refused;
      reads = reads_behind o c.args.folder.now later c.plan_with.new.folder _ _ c.in-Ok.ensures.reads (λ failed. cc) c.plan_with.ensures.reads;
      reads_source = reads_as g.S.Source.outside c.args.source.now c.ledger_of.new.source _ _ c.in-Ok.ensures.reads_source (λ failed. cc)
          (λ failed. absurd (steps_no_source (o.tells later) (o.state later).held c.args.moment.now c.args.between files c.args.accept c.plan_with.result refused failed));
    }

pub returns-in-Err-Bad : goal.returns-in-Err-Bad
returns-in-Err-Bad g c =
    let o = g.F.Source.outside in
    let q = g.S.Source.outside in
    let around = given o q c.args.folder.now c.args.source.now c.args.between in
    let why = c.in-Err-Bad.why in
    let told = c.no_files.ensures in record {
      planned = IfOk-weaker c.no_files.result (λ p. ⊥) (IsPlanBetween around c.args.moment.now c.args.between c.args.accept) (λ p never. absurd never) told.never;
      refused = bad_weaker c.no_files.result (λ f. IsUngiven why f) (λ why. (why ≡ fault.FolderFault) ⊎ ComesBetween around c.args.moment.now c.args.between c.args.accept why)
          (ungiven_comes around c.args.moment.now c.args.between c.args.accept why c.requires.meant (rw c.in-Err-Bad.field-0-is at c.in-Err-Bad.ensures.refused)) told.told;
      reads = reads_as o c.args.folder.now c.ledger_of.new.folder _ _ (rw c.in-Err-Bad.field-0-is at c.in-Err-Bad.ensures.reads) (λ failed. let is : why ≡ ledger.FolderFault = cc in told.folder is) (λ failed. let is = told.no_folder failed in cc);
      reads_source = reads_as q c.args.source.now c.ledger_of.new.source _ _ (rw c.in-Err-Bad.field-0-is at c.in-Err-Bad.ensures.reads_source) (λ failed. let is : why ≡ ledger.SourceFault = cc in told.source is) (λ failed. let is = told.no_source failed in cc);
    }
