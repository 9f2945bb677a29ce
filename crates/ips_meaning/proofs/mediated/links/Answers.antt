use Rattle.std.proofs.Common.{◌≡◌, ◌∙◌, ◌∷◌, ◌++◌, [], ℕ, List, cond, ap, subst, arith}
use Rattle.std.proofs.lemmas.List.{take_all}
use Rattle.ips_conflict.specs.declared.placed.Placed.{Placed}
use Rattle.ips_action.specs.Action.{Fields}
use Rattle.ips_meaning.specs.Taken.{links_of}
use Rattle.ips_meaning.specs.Offers.{links_at, offers}
use Rattle.ips_meaning.proofs.Offered.{links_none, links_more}
use Rattle.ips_meaning.proofs.mediated.links.Goals as goal

pub loop-item-init : goal.loop-item-init
loop-item-init c = λ name. links_none c.new-links.result name c.new-links.ensures.empty

pub loop-item-preserved : goal.loop-item-preserved
loop-item-preserved c =
    links_more c.args.admitted.now c.loop-item.item-index c.item-item.result c.loop-item.links c.add_link.new.links (omega arith) c.item-item.is c.loop-item.invariant
    (subst (λ (a : Fields). (name : List ℕ) → links_at c.add_link.new.links name ≡ cond (offers a name) (links_at c.loop-item.links name ++ a ∷ []) (links_at c.loop-item.links name)) c.action.ensures c.in_ok-add_link.ensures)

pub returns : goal.returns
returns c = λ name. c.loop-item.invariant name ∙ ap (λ (l : List Placed). links_of l name) (take_all c.loop-item.item-index c.args.admitted.now (omega arith))
