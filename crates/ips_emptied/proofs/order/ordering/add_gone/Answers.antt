use Rattle.std.proofs.Common.{◌+◌, ◌<◌, ◌≤◌, length, sym, ap, subst, arith}
use Rattle.std.specs.List.{AllByRecursion}
use Rattle.std.proofs.lemmas.Result.{on_ok_weaker}
use Rattle.ips_text.proofs.Lists.{all_append}
use Rattle.ips_emptied.specs.order.Chosen.{chosen}
use Rattle.ips_emptied.proofs.order.Places.{chosen_within, turned_within}
use Rattle.ips_emptied.proofs.order.ordering.add_gone.Goals as goal

pub returns-clause-within : goal.returns-clause-within
returns-clause-within c = on_ok_weaker c.add_back.result (λ is.
    let n = length c.args.marked.now.table.now.rows.items in
    let marks = c.deref.result.now in
    let le : 0 + length marks ≤ n = omega (arith, ap length c.deref.ensures.value, c.in_ok-marks.ensures.long) in
    subst (AllByRecursion (λ i. i < n)) (sym is) (all_append (λ i. i < n) c.args.order.now.items _ c.requires.within (turned_within (λ i. i < n) (chosen 0 marks) (chosen_within n 0 marks le)))) c.add_back.ensures
