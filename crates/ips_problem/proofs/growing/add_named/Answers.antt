use Rattle.std.proofs.Common.{◌+◌, ◌++◌, ◌∙◌, ap, flat_map, map, take, sym}
use Rattle.std.proofs.lemmas.List.Folds.{flat_map-map}
use Rattle.ips_request.specs.declared.asking.Naming as declared
use Rattle.ips_request.specs.Case.{Naming}
use Rattle.ips_request.specs.Stems.{stems_of, put_all}
use Rattle.ips_request.specs.Subject.{seen_naming}
use Rattle.ips_request.proofs.Lookups.{put_next}
use Rattle.ips_problem.proofs.growing.add_named.Goals as goal
use Rattle.ips_text.proofs.Lists.{flat_item}

pub loop-naming-preserved : goal.loop-naming-preserved
loop-naming-preserved c =
    let f = λ (n : Naming). n.stems in
    let own = λ (n : declared.Naming). n.stems.items in
    let ns = c.args.named.now in
    let i = c.loop-naming.naming-index in
    let x = c.naming-item.result in
    let cur = stems_of c.loop-naming.stems.keys in
    let split = flat_map-map f seen_naming (take (i + 1) ns) ∙ flat_item own ns i x c.loop-naming-test.true c.naming-item.is ∙ ap (λ l. l ++ x.stems.items) (sym (flat_map-map f seen_naming (take i ns))) in
    put_next (stems_of c.args.stems.now.keys) cur (stems_of c.add_texts.new.stems.keys) (flat_map f (map seen_naming (take i ns))) x.stems.items (flat_map f (map seen_naming (take (i + 1) ns)))
    split c.loop-naming.invariant (c.in_ok-add_texts.ensures ∙ ap (put_all cur) c.deref.ensures.value)
