use Rattle.std.proofs.Common.{◌≡◌, Bool, List, length, sym, ap, subst, arith}
use Rattle.ips_emptied.specs.Emptying.{AreAnswers}
use Rattle.ips_emptied.proofs.Placed.{all_new}
use Rattle.ips_emptied.proofs.emptying.ask_all.Goals as goal

pub returns-clause-found : goal.returns-clause-found
returns-clause-found g c = λ told.
    let t = (g.F.Source.outside.state c.args.folder.now).held in
    let new = c.ask.new.emptied in
    let made = c.in_ok-emptied.emptied in
    let size : made.len ≡ length new = omega (arith, c.ask.auto.emptied, ap length c.deref_mut.ensures.value, made.ok.0) in
    subst (λ (l : List Bool). AreAnswers t c.args.rows.now c.args.candidates.now c.args.replaced.now l) (sym (all_new made.len new made.items size)) (c.in_ok-ask.ensures.found told)
