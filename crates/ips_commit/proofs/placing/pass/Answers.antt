use Rattle.std.proofs.Common.{◌≡◌, ℕ, Bool, take, Ok, Err, sym, ◌∙◌, ap, subst, arith}
use Rattle.std.proofs.lemmas.Result.{err_from_is_err_and}
use Rattle.ips_journal.specs.declared.fault.StepFault.{StepFault}
use Rattle.ips_journal.specs.declared.fault.StepFault.TheVariants.{FolderFault}
use Rattle.ips_journal.specs.Reading.{IsAt, journal_of}
use Rattle.ips_outside.proofs.Reading.{reads_none, reads_then}
use Rattle.ips_commit.proofs.Places.{means_here, passed_more, never_ends, only_folder, failed_as}
use Rattle.ips_commit.proofs.placing.pass.Goals as goal

pub loop-passed-init : goal.loop-passed-init
loop-passed-init g c = record {
  going = c.requires;
  reads = reads_none g.F.Source.outside c.args.folder.now ⊥ (λ f. f);
  at = λ told steps lists is few at. at;
}

pub returns-in_err-next-clause-passed : goal.returns-in_err-next-clause-passed
returns-in_err-next-clause-passed g c = λ told steps lists is few at.
    let inv = c.loop-passed.invariant in
    let left = err_from_is_err_and c.from_residual.result c.from_residual.ensures.1 in
    failed_as c.from_residual.result c.in_err-next.field-0.0 _ (left.1 ∙ ap (λ (e : StepFault). Err e) left.2)
    (only_folder steps lists _ is (take c.loop-passed._passed steps) c.next.new.self c.next.result c.in_err-next.field-0.0 c.in_err-next.was
    (means_here g.F.Source.outside c.args.folder.now c.loop-passed.folder inv.reads c.loop-passed.reader c.next.new.self c.next.result c.next.ensures.means told (take c.loop-passed._passed steps) (inv.at told steps lists is few at)))

pub returns-then-not-branch-clause-passed : goal.returns-then-not-branch-clause-passed
returns-then-not-branch-clause-passed g c = λ told steps lists is few at.
    let inv = c.loop-passed.invariant in
    absurd (never_ends steps lists _ is c.loop-passed._passed c.next.new.self c.next.result (omega (arith, few)) (c.in_ok-next.was ∙ ap (λ (b : Bool). Ok b) c.if-not-branch.true)
    (means_here g.F.Source.outside c.args.folder.now c.loop-passed.folder inv.reads c.loop-passed.reader c.next.new.self c.next.result c.next.ensures.means told (take c.loop-passed._passed steps) (inv.at told steps lists is few at)))

pub loop-passed-preserved : goal.loop-passed-preserved
loop-passed-preserved g c =
    let inv = c.loop-passed.invariant in
    record {
      going = c.in_ok-next.ensures.lends.1 ∙ c.if-not-branch.false;
      reads = reads_then g.F.Source.outside c.args.folder.now c.loop-passed.folder c.next.new.folder (c.next.result ≡ Err FolderFault) ⊥ inv.reads c.next.ensures.reads (λ failed. let bad = sym c.in_ok-next.was ∙ failed in cc) (λ f. absurd f);
      at = λ told steps lists is few at.
          passed_more steps lists _ is c.loop-passed._passed c.next.new.self c.next.result (omega (arith, few)) (c.in_ok-next.was ∙ ap (λ (b : Bool). Ok b) c.if-not-branch.false)
          (means_here g.F.Source.outside c.args.folder.now c.loop-passed.folder inv.reads c.loop-passed.reader c.next.new.self c.next.result c.next.ensures.means told (take c.loop-passed._passed steps) (inv.at told steps lists is few at));
    }

pub returns-clause-passed : goal.returns-clause-passed
returns-clause-passed g c = λ told steps lists is few at.
    let same : c.loop-passed._passed ≡ c.args.count = omega arith in
    (subst (λ (n : ℕ). IsAt (journal_of (g.F.Source.outside.state c.args.folder.now).held) (take n steps) c.loop-passed.reader) same (c.loop-passed.invariant.at told steps lists is few at), tt)
