use Rattle.std.proofs.Common.{ap, ◌∙◌, sym, subst, refl, List}
use Rattle.std.proofs.lemmas.Option.{slice_get_read}
use Rattle.ips_refute.specs.declared.nogoods.Pair.{Pair}
use Rattle.ips_refute.specs.declared.nogoods.Nogood.{Nogood}
use Rattle.ips_search.specs.Searching.{EndsWith}
use Rattle.ips_search.proofs.cores.ends_choice.Goals as goal

pub returns-then-number-nogoods : goal.returns-then-number-nogoods
returns-then-number-nogoods c = λ t.
    let at = c.index-nogoods-number in
    let same = c.deref.ensures.value ∙ ap (λ (g : Nogood). g.set.items) (sym at.is) in
    let P : List Pair → Type 0 = λ s. EndsWith s c.args.chosen.now c.args.more in
    (at.result, slice_get_read c.args.nogoods.now _ c.args.number at.result refl c.if-number-nogoods.true at.is, subst P same (c.is_with_choice.ensures t))
