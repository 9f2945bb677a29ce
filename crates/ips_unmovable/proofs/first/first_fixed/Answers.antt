use Rattle.std.proofs.Common.{sym, subst}
use Rattle.ips_found.specs.declared.found.Thing.{Thing}
use Rattle.ips_unmovable.proofs.Ranked.{First, first_fixed_at, fixed_test, index_at, none_fixed}
use Rattle.ips_unmovable.proofs.first.first_fixed.Goals as goal

pub returns-in-Some-clause-first : goal.returns-in-Some-clause-first
returns-in-Some-clause-first c = λ r t seen are.
    let f = c.in-Some.ensures.first in
    subst (λ (x : Thing). First (fixed_test r t c.args.root.now.bytes) x.path.bytes) (sym (index_at c.args.things.now c.in-Some.i c.index-things-i.result f.thing f.there))
    (first_fixed_at r t c.args.root.now.bytes c.args.things.now seen are c.requires c.in-Some.i f)

pub returns-in-None-clause-first : goal.returns-in-None-clause-first
returns-in-None-clause-first c = λ r t seen are. none_fixed r t c.args.root.now.bytes c.args.things.now seen are c.in-None.ensures.none
