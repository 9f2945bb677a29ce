use Rattle.std.proofs.Common.{sym}
use Rattle.ips_action.specs.Action.{payload_word}
use Rattle.ips_action.proofs.Tabled.{named, none_refuted, some_then}
use Rattle.ips_action.proofs.action.Action.key.Goals as goal

pub returns-in-Some-clause-some : goal.returns-in-Some-clause-some
returns-in-Some-clause-some c = rw (← c.self.view_is) (some_then c.get.result _ _ c.get.ensures.some (λ value there. (c.in-Some.name.now, sym c.in-Some.ensures, there)))

pub returns-in-Some-clause-none : goal.returns-in-Some-clause-none
returns-in-Some-clause-none c =
    rw (← c.self.view_is) (none_refuted c.get.result _ c.get.ensures.none
    (named c.self.inside.kind (payload_word c.self.inside.payload) c.self.inside.attrs c.self.invariant.rows c.in-Some.name.now (sym c.in-Some.ensures)))
