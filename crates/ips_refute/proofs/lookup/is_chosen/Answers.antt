use Rattle.std.proofs.Common.{eqb, eqb-true, eq-eqb}
use Rattle.ips_refute.proofs.Tables.{one_rest, chosen_of_stem, chosen_of_others}
use Rattle.ips_refute.proofs.lookup.is_chosen.Goals as goal

pub has-requires : goal.has-requires
has-requires c = one_rest c.args.more c.args.set.now c.requires

pub returns-then-stem-own : goal.returns-then-stem-own
returns-then-stem-own c =
    let p = c.args.pair in
    let more = c.args.more in
    chosen_of_stem (eqb p.candidate more.candidate) c.args.set.now p more c.requires c.if-stem-own.true (λ t. eqb-true p.candidate more.candidate t, λ e. eq-eqb p.candidate more.candidate e)

pub returns-else-stem-own : goal.returns-else-stem-own
returns-else-stem-own c = chosen_of_others c.has.result c.args.set.now c.args.pair c.args.more c.if-stem-own.false c.has.ensures
