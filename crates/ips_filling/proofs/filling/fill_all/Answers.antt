use Rattle.std.proofs.Common.{Global, Vec, List, [], ◌∷◌, ◌++◌, Err, ◌∙◌, ap, sym, subst, append_assoc}
use Rattle.std.specs.List.{AllByRecursion}
use Rattle.ips_text.specs.declared.refusal.Or.TheVariants.{Bad}
use Rattle.ips_text.specs.Reading.{IfBad}
use Rattle.ips_manifest.specs.declared.draft.Draft.{Draft}
use Rattle.ips_manifest.specs.Draft.{CanBeFilled}
use Rattle.ips_outside.specs.Image.{Image}
use Rattle.ips_outside.specs.State.{State}
use Rattle.ips_outside.proofs.Reading.{no_fault, reads_then}
use Rattle.ips_filling.specs.declared.filled.Filled.{Filled}
use Rattle.ips_filling.specs.declared.filled.ContentFault.TheVariants as fault
use Rattle.ips_filling.specs.Filled.{IsFilling, IsPlaced, Pairwise, IsUnfilled}
use Rattle.ips_filling.proofs.Drafts.{pair_more, unfilled_next}
use Rattle.ips_filling.proofs.filling.fill_all.Goals as goal

pub loop-draft-preserved : goal.loop-draft-preserved
loop-draft-preserved g c =
    let inv = c.loop-draft.invariant in
    let d : Draft = c.in-Some.draft in
    let f : Filled = c.in-Ok.line in
    let step = (rw c.in-Some.is at c.next.ensures.steps).0 in
    let kept = ap (λ (s : State). s.held) inv.reads.kept in
    let t = (g.S.Source.outside.state c.args.source.now).held in
    record {
      filled = λ told. subst (Pairwise (IsFilling t) (c.loop-draft.yielded ++ d ∷ [])) (sym c.in_ok-push-in-Ok.ensures.items)
          (pair_more (IsFilling t) c.loop-draft.yielded c.loop-draft.filled.items d f (inv.filled told) (subst (λ (u : Image). IsFilling u d f) kept (c.in-Ok.ensures.filled (inv.reads.call.same_kind ∙ told))));
      placed = subst (Pairwise IsPlaced (c.loop-draft.yielded ++ d ∷ [])) (sym c.in_ok-push-in-Ok.ensures.items)
          (pair_more IsPlaced c.loop-draft.yielded c.loop-draft.filled.items d f inv.placed c.in-Ok.ensures.placed);
      parts = append_assoc c.loop-draft.yielded (d ∷ []) c.next.new.self.rest.items ∙ ap (λ (l : List Draft). c.loop-draft.yielded ++ l) (sym step) ∙ inv.parts;
      fillable = (subst (AllByRecursion CanBeFilled) step inv.fillable).1;
      room = c.fill_draft.auto.buffer ∙ inv.room;
      reads = reads_then g.S.Source.outside c.args.source.now c.loop-draft.source c.fill_draft.new.source _ _ inv.reads c.fill_draft.ensures.reads (no_fault c.fill_draft.result f (Bad fault.SourceFault) c.in-Ok.is) (λ f. absurd f);
    }

pub returns-in-Err-clause-refused : goal.returns-in-Err-clause-refused
returns-in-Err-clause-refused g c = λ told.
    let inv = c.loop-draft.invariant in
    let d : Draft = c.in-Some.draft in
    let step = (rw c.in-Some.is at c.next.ensures.steps).0 in
    let kept = ap (λ (s : State). s.held) inv.reads.kept in
    let t = (g.S.Source.outside.state c.args.source.now).held in
    unfilled_next Filled (Vec Filled Global) c.in-Err.fault t c.loop-draft.yielded d c.next.new.self.rest.items c.args.drafts.items c.loop-draft.filled.items (inv.filled told)
    (sym inv.parts ∙ ap (λ (l : List Draft). c.loop-draft.yielded ++ l) step)
    (subst (λ (u : Image). IfBad {X = Filled} (Err c.in-Err.fault) (IsUnfilled u d)) kept (c.in-Err.ensures.refused (inv.reads.call.same_kind ∙ told)))
