use Rattle.std.proofs.Common.{ℕ, List, sym, ◌∙◌, ap, subst, ◌++◌, map}
use Rattle.std.proofs.lemmas.Result.{on_ok_weaker}
use Rattle.ips_emit.specs.Emitted.{IsEmitted}
use Rattle.ips_mend.specs.mended.Drafting.{sources_in, turns_mended}
use Rattle.ips_mend.specs.mended.Ordering.{wanted_order}
use Rattle.ips_emptied.specs.order.Chosen.{path_in}
use Rattle.ips_change.specs.wanted.Wanted.{want_of}
use Rattle.ips_repair.proofs.drawing.add_wanted.Goals as goal

pub returns : goal.returns
returns c = on_ok_weaker c.draft_mended.result (λ drawn f t turns provenances good want_is told emitted.
    let want = c.args.want.now in
    let order = c.deref.result.now in
    let same = ap (map (path_in (want_of want).keys)) c.deref.ensures.value ∙ c.in_ok-order.ensures.ordered ∙ ap wanted_order (sym want_is) in
    (order, subst (λ (paths : List (List ℕ)). IsEmitted f.bytes t (turns ++ turns_mended f t paths) (provenances ++ sources_in c.args.changes.now order) c.draft_mended.new.emitted) same (drawn f t turns provenances good want_is told emitted))) c.draft_mended.ensures
