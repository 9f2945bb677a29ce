use Rattle.std.proofs.Common.{◌∙◌, ◌∷◌, [], ◌||◌, ◌<◌, Bool, List, take, take_all, length, ap, sym, arith}
use Rattle.std.specs.List.{list_any}
use Rattle.std.proofs.lemmas.List.Folds.{list_any-append}
use Rattle.ips_text.proofs.Lists.{take_item}
use Rattle.ips_conflict.specs.declared.placed.Placed.{Placed}
use Rattle.ips_delivered.proofs.delivered.Picked.{stem_at}
use Rattle.ips_delivered.specs.new_licenses.New.{delivers_new}
use Rattle.ips_delivered.proofs.new_licenses.marked.marked.Goals as goal

pub add_marked-requires : goal.add_marked-requires
add_marked-requires c = stem_at c.args.is.now c.loop-item.item-index c.item-item.result (omega arith) c.item-item.is c.requires

pub loop-item-preserved : goal.loop-item-preserved
loop-item-preserved c = λ licenses named keys one.
    let is = c.args.is.now in
    let i = c.loop-item.item-index in
    let lt : i < length is = omega arith in
    let item = c.item-item.result in
    let test = delivers_new licenses c.args.key.now one in
    c.in_ok-add_marked.ensures licenses named keys one
    ∙ ap (λ (b : Bool). b || list_any test (item ∷ [])) (c.loop-item.invariant licenses named keys one)
    ∙ sym (list_any-append test (take i is) (item ∷ []))
    ∙ ap (list_any test) (sym (take_item is i item lt c.item-item.is))

pub returns : goal.returns
returns c = λ licenses named keys one.
    c.loop-item.invariant licenses named keys one ∙ ap (λ (l : List Placed). list_any (delivers_new licenses c.args.key.now one) l) (take_all c.loop-item.item-index c.args.is.now (omega arith))
