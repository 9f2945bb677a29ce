use Rattle.std.proofs.Common.{◌≡◌, ◌∙◌, sym, subst}
use Rattle.ips_meaning.specs.Want.{IsFreeOfClashes}
use Rattle.ips_meaning.proofs.Meanings.{fails, meant, no_clash}
use Rattle.ips_meaning.proofs.Together.{together}
use Rattle.ips_meaning.proofs.meaning.want.Goals as goal

pub returns-in-Some-clause-fault : goal.returns-in-Some-clause-fault
returns-in-Some-clause-fault c =
    fails c.args.settings.now c.args.mediators.now c.args.packages.now c.in_ok-admitted.admitted.items c.in_ok-kept.kept.items c.in_ok-admitted.ensures c.deref.result.now c.deref.ensures.value c.in_ok-kept.ensures
    c.deref-2.result.now c.deref-3.result.now c.in_ok-reserved.reserved c.in_ok-clashing.clashing c.in-Some.fault c.deref-2.ensures.value c.in_ok-reserved.ensures c.deref-3.ensures.value c.in_ok-clashing.ensures (sym c.fault_of.ensures ∙ c.in-Some.is)

pub returns-clause-want : goal.returns-clause-want
returns-clause-want c =
    meant c.args.settings.now c.args.mediators.now c.args.packages.now c.in_ok-admitted.admitted.items c.in_ok-kept.kept.items c.in_ok-admitted.ensures c.deref.result.now c.deref.ensures.value c.in_ok-kept.ensures
    c.deref-2.result.now c.deref-3.result.now c.deref-4.result.now c.in_ok-reserved.reserved c.in_ok-clashing.clashing c.in_ok-of.field-0 c.deref-2.ensures.value c.in_ok-reserved.ensures c.deref-3.ensures.value c.in_ok-clashing.ensures
    (sym c.fault_of.ensures ∙ c.in_default.is) c.deref-4.ensures.value c.in_ok-of.ensures.want

pub returns-clause-together : goal.returns-clause-together
returns-clause-together c =
    let same : c.deref-3.result.now ≡ c.deref-4.result.now = c.deref-3.ensures.value ∙ sym c.deref-4.ensures.value in
    let free : IsFreeOfClashes c.deref-4.result.now = subst IsFreeOfClashes same (no_clash c.deref-3.result.now c.in_ok-reserved.reserved c.in_ok-clashing.clashing (sym c.fault_of.ensures ∙ c.in_default.is) c.in_ok-clashing.ensures) in
    together c.deref-4.result.now free c.in_ok-of.field-0 c.in_ok-of.ensures.want c.in_ok-of.ensures.whole
