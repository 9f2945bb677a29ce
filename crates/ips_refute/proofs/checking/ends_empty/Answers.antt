use Rattle.std.proofs.Common.{◌-◌, length, refl, arith, ap, sym, ◌∙◌, eqb, vec_len}
use Rattle.ips_refute.specs.declared.nogoods.Nogood.{Nogood}
use Rattle.std.proofs.lemmas.Option.{slice_get_read}
use Rattle.ips_refute.proofs.Checks.{ends_iff, empty_iff}
use Rattle.ips_refute.proofs.checking.ends_empty.Goals as goal

pub returns-then-count-gt0 : goal.returns-then-count-gt0
returns-then-count-gt0 c =
    let at = c.index-nogoods-count in
    let ns = c.args.nogoods.now in
    ends_iff c.is_empty.result ns at.result (slice_get_read ns (length ns) (length ns - 1) at.result refl (omega arith) at.is) (empty_iff c.is_empty.result at.result (c.is_empty.ensures ∙ ap (λ (g : Nogood). eqb (vec_len g.set) 0) (sym at.is)))
