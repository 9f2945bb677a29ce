use Rattle.std.proofs.Common.{◌+◌, [], ◌∙◌, Vec, Global, List, ℕ, ap, sym, take, take_all, arith}
use Rattle.std.specs.List.{flat_map}
use Rattle.std.proofs.lemmas.List.Folds.{flat_map-map}
use Rattle.ips_request.specs.Stems.{stems_of, put_all}
use Rattle.ips_request.proofs.Lookups.{put_next}
use Rattle.ips_request.proofs.making.each_once.Goals as goal
use Rattle.ips_text.proofs.Lists.{flat_item}

pub loop-list-init : goal.loop-list-init
loop-list-init c = ap stems_of c.new-stems.ensures.empty

pub loop-list-preserved : goal.loop-list-preserved
loop-list-preserved c =
    let items = λ (v : Vec (List ℕ) Global). v.items in
    let xs = c.args.lists.now in
    let i = c.loop-list.list-index in
    let x = c.list-item.result in
    put_next [] (stems_of c.loop-list.stems.keys) (stems_of c.add_texts.new.stems.keys) (flat_map items (take i xs)) x.items (flat_map items (take (i + 1) xs))
    (flat_item items xs i x c.loop-list-test.true c.list-item.is) c.loop-list.invariant (c.in_ok-add_texts.ensures ∙ ap (put_all (stems_of c.loop-list.stems.keys)) c.deref.ensures.value)

pub returns : goal.returns
returns c =
    let items = λ (v : Vec (List ℕ) Global). v.items in
    let xs = c.args.lists.now in
    c.loop-list.invariant ∙ ap (λ l. put_all [] (flat_map items l)) (take_all c.loop-list.list-index xs (omega arith)) ∙ sym (ap (put_all []) (flat_map-map (λ (stems : List (List ℕ)). stems) items xs))
