use Rattle.std.proofs.Common.{ℕ, ◌+◌, Vec, Global, ◌≡◌, ◌<◌, true, false, length, get_or, arith, refl, sym, ap, ◌∙◌, subst}
use Rattle.std.proofs.Math.ListN.{length-set}
use Rattle.std.proofs.lemmas.List.{get_or_default}
use Rattle.ips_outside.specs.declared.table.Node.{Node}
use Rattle.ips_outside.specs.Tearing.{IsHalf}
use Rattle.ips_outside.proofs.Cuts.{IsCutTo, none_cut, passed, halved_here, all_cut, upto}
use Rattle.ips_outside.proofs.tearing.cut_others.Goals as goal
use Rattle.ips_outside.proofs.tearing.cut_others.Goals.{then-not-kept-i, else-not-kept-i}

pub loop-i-init : goal.loop-i-init
loop-i-init c = record { length = refl; cut = none_cut c.args.nodes.now.items c.args.kept.now }

pub loop-i-preserved : goal.loop-i-preserved
loop-i-preserved c =
    let first = c.args.nodes.now.items in
    let kept = c.args.kept.now in
    let i = c.loop-i.i in
    let inv = c.loop-i.invariant in
    elim c.if-not-kept-i.branch [
      | then-not-kept-i w ↦
          let lt : i < length c.loop-i.nodes.items = omega (arith, inv.length, c.requires, c.loop-i-test.true) in
          let goes : get_or kept i true ≡ false = get_or_default kept i true false c.loop-i-test.true ∙ w.if-not-kept-i.true in
          subst (upto first kept (i + 1)) (sym (ap (λ (v : Vec Node Global). v.items) w.nodes-is))
          (record {
            length = length-set c.loop-i.nodes.items i w.halve.new.node ∙ inv.length;
            cut = halved_here first c.loop-i.nodes.items kept i inv.cut w.index_mut.result.now w.halve.new.node lt (subst (λ (x : Node). IsHalf x w.halve.new.node) w.index_mut.ensures.value w.halve.ensures) goes;
          })
      | else-not-kept-i w ↦
          let stays : get_or kept i true ≡ true = get_or_default kept i true false c.loop-i-test.true ∙ w.if-not-kept-i.false in
          subst (upto first kept (i + 1)) (sym (ap (λ (v : Vec Node Global). v.items) w.nodes-is)) (record { length = inv.length; cut = passed first c.loop-i.nodes.items kept i inv.cut stays })
    ]

pub returns : goal.returns
returns c =
    let kept = c.args.kept.now in
    let end : c.loop-i.i ≡ length kept = omega (arith, c.loop-i.auto.i-end, c.loop-i-test.false) in
    record { cut = all_cut c.args.nodes.now.items c.loop-i.nodes.items kept (subst (λ (i : ℕ). IsCutTo c.args.nodes.now.items kept i c.loop-i.nodes.items) end c.loop-i.invariant.cut) }
