use Rattle.std.proofs.Common.{List, [], ◌∷◌, ◌++◌, ◌∙◌, ap, sym, subst, append_assoc}
use Rattle.std.specs.List.{AllByRecursion}
use Rattle.ips_lay.specs.declared.content.Content.{Content}
use Rattle.ips_prepare.specs.declared.prepared.Content as prepare
use Rattle.ips_prepare.specs.Prepared.{HasName}
use Rattle.ips_ready.specs.Plans.{IsPlaced, sources_placed}
use Rattle.ips_ready.proofs.Placed.{all_more, sources_more}
use Rattle.ips_ready.proofs.planning.place_all.Goals as goal

pub loop-content-preserved : goal.loop-content-preserved
loop-content-preserved c =
    let inv = c.loop-content.invariant in
    let from : prepare.Content = c.in-Some.content in
    let step = (rw c.in-Some.is at c.next.ensures.steps).0 in
    let put : Content = c.in_ok-one.one in
    record {
      placed = subst (AllByRecursion (IsPlaced c.args.publisher.now)) (sym c.in_ok-push.ensures.items) (all_more (IsPlaced c.args.publisher.now) c.loop-content.placed.items put inv.placed c.in_ok-one.ensures.placed);
      sources = ap sources_placed c.in_ok-push.ensures.items ∙ sources_more c.loop-content.placed.items c.loop-content.yielded put from inv.sources c.in_ok-one.ensures.path c.in_ok-one.ensures.name;
      parts = append_assoc c.loop-content.yielded (from ∷ []) c.next.new.self.rest.items ∙ ap (λ (l : List prepare.Content). c.loop-content.yielded ++ l) (sym step) ∙ inv.parts;
      names = (subst (AllByRecursion HasName) step inv.names).1;
    }
