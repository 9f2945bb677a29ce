use Rattle.std.proofs.Common.{◌≡◌, ◌∙◌, ◌++◌, ◌∷◌, [], List, ℕ, ap, subst, sym, append_assoc}
use Rattle.ips_transform.specs.Transformed.{ActionParts}
use Rattle.ips_transform.specs.Output.{Become, IsFirstBadResult}
use Rattle.ips_transform.proofs.Yielded.{become_more, bad_behind}
use Rattle.ips_transform.proofs.results.lines_of.Goals as goal

pub loop-parts-init : goal.loop-parts-init
loop-parts-init c = record { become = c.in_ok-results.ensures.items; parts = c.into_iter-parts-iterator.ensures.into_iter_gives.0 }

pub loop-parts-preserved : goal.loop-parts-preserved
loop-parts-preserved c =
    let p : ActionParts = c.in-Some.parts in
    let step = (rw c.in-Some.is at c.next.ensures.steps).0 in
    let number : c.parts.inside.number ≡ p.number = ap (λ (x : ActionParts). x.number) c.parts.view_is in
    record {
      become = subst (Become (c.loop-parts.yielded ++ p ∷ []))
          (sym (c.in_ok-push-in-Some-2.ensures.items ∙ ap (λ (n : ℕ). c.loop-parts.results.items ++ record { number = n; action = c.in-Some-2.action } ∷ []) number))
          (become_more c.loop-parts.yielded p c.loop-parts.results.items c.in-Some-2.action c.loop-parts.invariant.become (rw c.in-Some-2.is at c.in_ok-action.ensures.some));
      parts = append_assoc c.loop-parts.yielded (p ∷ []) c.next.new.self.rest.items ∙ ap (λ (l : List ActionParts). c.loop-parts.yielded ++ l) (sym step) ∙ c.loop-parts.invariant.parts;
    }

pub returns-in-None-2-clause-bad : goal.returns-in-None-2-clause-bad
returns-in-None-2-clause-bad c =
    let p : ActionParts = c.in-Some.parts in
    let step = (rw c.in-Some.is at c.next.ensures.steps).0 in
    let number : c.parts.inside.number ≡ p.number = ap (λ (x : ActionParts). x.number) c.parts.view_is in
    subst (λ (l : List ActionParts). IsFirstBadResult l c.parts.inside.number) (ap (λ (l : List ActionParts). c.loop-parts.yielded ++ l) (sym step) ∙ c.loop-parts.invariant.parts)
    (bad_behind c.loop-parts.yielded p c.next.new.self.rest.items c.loop-parts.results.items c.parts.inside.number c.loop-parts.invariant.become number (rw c.in-None-2.is at c.in_ok-action.ensures.none))
