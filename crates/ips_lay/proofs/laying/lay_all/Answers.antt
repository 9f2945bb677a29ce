use Rattle.std.proofs.Common.{◌≡◌, ℕ, ◌<◌, Bool, true, List, length, Some, Err, refl, sym, ◌∙◌, ap, subst, arith}
use Rattle.std.specs.Prelude.{slice_get}
use Rattle.std.proofs.lemmas.Option.{slice_get_read, slice_get_within}
use Rattle.ips_text.specs.declared.refusal.Or.{Or}
use Rattle.ips_text.specs.Reading.{IfBad}
use Rattle.ips_outside.specs.Image.{Image}
use Rattle.ips_outside.specs.State.{State}
use Rattle.ips_outside.specs.Outside.{HasCause, Reads}
use Rattle.ips_outside.proofs.Faults.{cause_as, no_cause}
use Rattle.ips_outside.proofs.Reading.{answered, reads_none, reads_then, reads_as}
use Rattle.ips_files.specs.Files.{file_at}
use Rattle.ips_repo.specs.Payload.{HasIntact}
use Rattle.ips_contents.proofs.AllWritten.{cause_since}
use Rattle.ips_lay.specs.declared.content.Content.{Content}
use Rattle.ips_lay.specs.declared.content.LayFault.{LayFault}
use Rattle.ips_lay.specs.Laid.{IsNotThere}
use Rattle.ips_lay.specs.Lists.{SaysOfLay, IsCounted, names_of}
use Rattle.ips_lay.proofs.Told.{source_to, source_from, folder_to, folder_from, says_of_lay, counted_at}
use Rattle.ips_lay.proofs.Unlaid.{stays_intact, parent_stays, lays_none, lays_then, name_in, names_are, all_intact, members_stay}
use Rattle.ips_lay.proofs.laying.lay_all.Goals as goal

pub loop-number-init : goal.loop-number-init
loop-number-init g c = record {
  kind = refl;
  faults = refl;
  changes = omega arith;
  reads = reads_none g.S.Source.outside c.args.source.now ⊥ (λ f. f);
  intact = λ told n x lt at. absurd (omega (arith, lt));
  beside = λ told. lays_none c.args.publisher.now c.requires.publisher g.F.Source.outside (names_of c.args.contents.now) c.args.folder.now (g.met.F.Source.sane.only_now c.args.folder.now);
}

pub lay_content-requires-clause-placed : goal.lay_content-requires-clause-placed
lay_content-requires-clause-placed g c =
    let x = c.index-contents-number.result in
    c.requires.placed c.loop-number.number x (slice_get_read c.args.contents.now (length c.args.contents.now) c.loop-number.number x refl c.loop-number-test.true c.index-contents-number.is)

pub lay_content-requires-clause-parent : goal.lay_content-requires-clause-parent
lay_content-requires-clause-parent g c = λ told_now.
    let x = c.index-contents-number.result in
    let told = sym c.loop-number.invariant.kind ∙ told_now in
    let at = slice_get_read c.args.contents.now (length c.args.contents.now) c.loop-number.number x refl c.loop-number-test.true c.index-contents-number.is in
    parent_stays c.args.publisher.now c.requires.publisher g.F.Source.outside (names_of c.args.contents.now) c.args.folder.now c.loop-number.folder (names_are c.args.contents.now c.requires.named) (c.loop-number.invariant.beside told)
    x.name (c.requires.named c.loop-number.number x at) x.place.bytes (c.requires.placed c.loop-number.number x at) (c.requires.parents told c.loop-number.number x at)

pub returns-in-Err-clause-beside : goal.returns-in-Err-clause-beside
returns-in-Err-clause-beside g c = λ told.
    let x = c.index-contents-number.result in
    let at = slice_get_read c.args.contents.now (length c.args.contents.now) c.loop-number.number x refl c.loop-number-test.true c.index-contents-number.is in
    lays_then c.args.publisher.now c.requires.publisher g.F.Source.outside (names_of c.args.contents.now) x.name c.args.folder.now c.loop-number.folder c.lay_content.new.folder (names_are c.args.contents.now c.requires.named) (name_in c.args.contents.now c.loop-number.number x at)
    (c.loop-number.invariant.beside told) (c.lay_content.ensures.any_moment (c.loop-number.invariant.kind ∙ told))

pub returns-in-Err-clause-missing : goal.returns-in-Err-clause-missing
returns-in-Err-clause-missing g c = λ told.
    let so = g.S.Source.outside in
    let inv = c.loop-number.invariant in
    let x = c.index-contents-number.result in
    let at = slice_get_read c.args.contents.now (length c.args.contents.now) c.loop-number.number x refl c.loop-number-test.true c.index-contents-number.is in
    subst (λ (e : Or LayFault). IfBad {X = Unit {0}} (Err e) (SaysOfLay (so.state c.args.source.now).held c.args.contents.now)) (sym c.fault_at.ensures)
    (says_of_lay (so.state c.args.source.now).held c.args.contents.now c.loop-number.number x at c.in-Err.fault
    (λ is. subst (λ (s : State). IsNotThere x.name (file_at s.held x.path.bytes)) inv.reads.kept (c.in-Err.ensures.missing (inv.reads.call.same_kind ∙ told) is)))

pub returns-in-Err-clause-reads : goal.returns-in-Err-clause-reads
returns-in-Err-clause-reads g c =
    rw c.fault_at.ensures
    (reads_then g.S.Source.outside c.args.source.now c.loop-number.source c.lay_content.new.source _ _ c.loop-number.invariant.reads c.in-Err.ensures.reads (source_to c.loop-number.number c.in-Err.fault) (source_from c.loop-number.number c.in-Err.fault))

pub returns-in-Err-clause-cause : goal.returns-in-Err-clause-cause
returns-in-Err-clause-cause g c =
    let o = g.F.Source.outside in
    rw c.fault_at.ensures
    (cause_since (o.faults c.args.folder.now) (o.faults c.loop-number.folder) (o.faults c.lay_content.new.folder) _ c.loop-number.invariant.faults
    (cause_as (o.faults c.loop-number.folder) (o.faults c.lay_content.new.folder) _ _ c.in-Err.ensures.cause (folder_to c.loop-number.number c.in-Err.fault) (folder_from c.loop-number.number c.in-Err.fault)))

pub loop-number-preserved : goal.loop-number-preserved
loop-number-preserved g c =
    let o = g.F.Source.outside in
    let inv = c.loop-number.invariant in
    let contents = c.args.contents.now in
    let i = c.loop-number.number in
    let x = c.index-contents-number.result in
    let at = slice_get_read contents (length contents) i x refl c.loop-number-test.true c.index-contents-number.is in record {
      kind = c.lay_content.ensures.same_kind ∙ inv.kind;
      faults = c.in-Ok.ensures.cause.steady (λ failed. cc) ∙ inv.faults;
      changes = omega (arith, inv.changes, c.lay_content.ensures.changes);
      reads = reads_then g.S.Source.outside c.args.source.now c.loop-number.source c.lay_content.new.source _ ⊥ inv.reads c.in-Ok.ensures.reads (λ failed. cc) (λ f. absurd f);
      intact = λ told. members_stay c.args.publisher.now c.requires.publisher o contents c.requires.named i x at c.loop-number.folder c.lay_content.new.folder (inv.intact told)
          (c.lay_content.ensures.any_moment (inv.kind ∙ told)) (c.in-Ok.ensures.intact (inv.kind ∙ told));
      beside = λ told. lays_then c.args.publisher.now c.requires.publisher o (names_of contents) x.name c.args.folder.now c.loop-number.folder c.lay_content.new.folder (names_are contents c.requires.named) (name_in contents i x at)
          (inv.beside told) (c.lay_content.ensures.any_moment (inv.kind ∙ told));
    }

pub returns-clause-intact : goal.returns-clause-intact
returns-clause-intact g c = λ told.
    all_intact c.args.publisher.now (g.F.Source.outside.state c.loop-number.folder).held c.args.contents.now
    (λ n x at. c.loop-number.invariant.intact told n x (omega (arith, slice_get_within c.args.contents.now n x at, c.loop-number-test.false)) at)

pub returns-clause-reads : goal.returns-clause-reads
returns-clause-reads g c = reads_as g.S.Source.outside c.args.source.now c.loop-number.source ⊥ _ c.loop-number.invariant.reads (λ f. absurd f) (λ is. cc)

pub returns-clause-cause : goal.returns-clause-cause
returns-clause-cause g c =
    let o = g.F.Source.outside in
    cause_since (o.faults c.args.folder.now) (o.faults c.loop-number.folder) (o.faults c.loop-number.folder) _ c.loop-number.invariant.faults (no_cause _ _ (λ is. cc))

pub returns-in-Err-clause-counted : goal.returns-in-Err-clause-counted
returns-in-Err-clause-counted g c =
    subst (λ (e : Or LayFault). IfBad {X = Unit {0}} (Err e) (IsCounted (length c.args.contents.now))) (sym c.fault_at.ensures)
    (counted_at c.loop-number.number (length c.args.contents.now) c.loop-number-test.true c.in-Err.fault)
