use Rattle.std.proofs.Common.{◌∙◌, ◌<◌, Option, Bor, List, ℕ, take, length, sym, ap, subst, arith}
use Rattle.std.specs.Prelude.{IfSome, option_map}
use Rattle.std.proofs.lemmas.List.{take_all}
use Rattle.ips_text.specs.Path.{IsPath}
use Rattle.ips_conflict.specs.declared.placed.Placed.{Placed}
use Rattle.ips_meaning.specs.Reserved.{IsFreeOfReserved}
use Rattle.ips_meaning.proofs.Least.{LeastTo, least_more, least_same}
use Rattle.ips_meaning.proofs.reserved.least_reserved.Goals as goal
use Rattle.ips_meaning.proofs.reserved.least_reserved.Goals.{in-Some, in_default}
use Rattle.ips_text.proofs.Lists.{take_item}

pub loop-item-preserved : goal.loop-item-preserved
loop-item-preserved c =
    let admitted = c.args.admitted.now in
    let front = take c.loop-item.item-index admitted in
    let lt : c.loop-item.item-index < length admitted = omega arith in
    let text : Option (Bor (List ℕ)) → Option (List ℕ) = option_map (λ b. b.now) in
    subst (λ (l : List Placed). LeastTo l c.match-reserved_path.least) (sym (take_item admitted c.loop-item.item-index c.item-item.result lt c.item-item.is))
    (elim c.match-reserved_path.branch [
      | in-Some w ↦
          subst (LeastTo _) (sym w.least-is)
          (least_more front c.item-item.result c.loop-item.least w.in-Some.path.now w.lesser.result c.loop-item.invariant (sym c.reserved_path.ensures.path ∙ ap text w.in-Some.is) (subst (λ (o : Option (Bor (List ℕ))). IfSome o (λ b. IsPath b.now)) w.in-Some.is c.reserved_path.ensures.proper) w.lesser.ensures)
      | in_default w ↦ subst (LeastTo _) (sym w.least-is) (least_same front c.item-item.result c.loop-item.least c.loop-item.invariant (sym c.reserved_path.ensures.path ∙ ap text w.in_default.is))
    ])

pub returns-in-None : goal.returns-in-None
returns-in-None c =
    let free : IsFreeOfReserved (take c.loop-item.item-index c.args.admitted.now) = subst (LeastTo (take c.loop-item.item-index c.args.admitted.now)) c.in-None.is c.loop-item.invariant in
    subst IsFreeOfReserved (take_all c.loop-item.item-index c.args.admitted.now (omega arith)) free
