use Rattle.std.proofs.Common.{◌≡◌, Bool, [], Ok, Err, refl, sym, ◌∙◌, ap}
use Rattle.std.proofs.lemmas.Result.{err_from_is_err_and}
use Rattle.ips_journal.specs.declared.fault.StepFault.{StepFault}
use Rattle.ips_journal.specs.declared.fault.StepFault.TheVariants.{FolderFault}
use Rattle.ips_outside.proofs.Reading.{reads_none, reads_then}
use Rattle.ips_commit.proofs.Places.{means_here, whole_fault, whole_end, read_more, too_many}
use Rattle.ips_commit.proofs.placing.read_whole.Goals as goal

pub loop-count-init : goal.loop-count-init
loop-count-init g c = record {
  going = c.requires;
  reads = reads_none g.F.Source.outside c.args.folder.now ⊥ (λ f. f);
  read = λ told at. ([], at, refl);
}

pub returns-in_err-next-clause-whole : goal.returns-in_err-next-clause-whole
returns-in_err-next-clause-whole g c = λ told at.
    let inv = c.loop-count.invariant in
    let left = err_from_is_err_and c.from_residual.result c.from_residual.ensures.1 in
    let so_far = inv.read told at in
    whole_fault _ so_far.0 c.next.new.self c.next.result c.in_err-next.field-0.0 c.from_residual.result c.in_err-next.was (left.1 ∙ ap (λ (e : StepFault). Err e) left.2)
    (means_here g.F.Source.outside c.args.folder.now c.loop-count.folder inv.reads c.loop-count.reader c.next.new.self c.next.result c.next.ensures.means told so_far.0 so_far.1)

pub returns-then-not-branch-clause-whole : goal.returns-then-not-branch-clause-whole
returns-then-not-branch-clause-whole g c = λ told at.
    let inv = c.loop-count.invariant in
    let so_far = inv.read told at in
    whole_end _ so_far.0 c.next.new.self c.next.result c.loop-count.count (c.in_ok-next.was ∙ ap (λ (b : Bool). Ok b) c.if-not-branch.true)
    (means_here g.F.Source.outside c.args.folder.now c.loop-count.folder inv.reads c.loop-count.reader c.next.new.self c.next.result c.next.ensures.means told so_far.0 so_far.1) so_far.2

pub loop-count-preserved : goal.loop-count-preserved
loop-count-preserved g c =
    let inv = c.loop-count.invariant in
    record {
      going = c.in_ok-next.ensures.lends.1 ∙ c.if-not-branch.false;
      reads = reads_then g.F.Source.outside c.args.folder.now c.loop-count.folder c.next.new.folder (c.next.result ≡ Err FolderFault) ⊥ inv.reads c.next.ensures.reads (λ failed. let bad = sym c.in_ok-next.was ∙ failed in cc) (λ f. absurd f);
      read = λ told at.
          let so_far = inv.read told at in
          read_more _ so_far.0 c.next.new.self c.next.result c.loop-count.count (c.in_ok-next.was ∙ ap (λ (b : Bool). Ok b) c.if-not-branch.false)
          (means_here g.F.Source.outside c.args.folder.now c.loop-count.folder inv.reads c.loop-count.reader c.next.new.self c.next.result c.next.ensures.means told so_far.0 so_far.1) so_far.2;
    }

pub returns-then-count-clause-whole : goal.returns-then-count-clause-whole
returns-then-count-clause-whole g c = λ told at.
    let inv = c.loop-count.invariant in
    let so_far = inv.read told at in
    too_many _ c.next.new.self c.loop-count.count
    (read_more _ so_far.0 c.next.new.self c.next.result c.loop-count.count (c.in_ok-next.was ∙ ap (λ (b : Bool). Ok b) c.if-not-branch.false)
    (means_here g.F.Source.outside c.args.folder.now c.loop-count.folder inv.reads c.loop-count.reader c.next.new.self c.next.result c.next.ensures.means told so_far.0 so_far.1) so_far.2)
    c.if-count.true
