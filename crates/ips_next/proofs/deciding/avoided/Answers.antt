use Rattle.std.proofs.Common.{inr, option_map, refl, sym, subst}
use Rattle.ips_state.specs.State.{recorded}
use Rattle.ips_asked.specs.Requested.{kind_asked}
use Rattle.ips_next.specs.Decided.{IsUndecided, MayCome}
use Rattle.ips_problem.specs.Asked.{IsAsked}
use Rattle.ips_problem.specs.Held.{posed_of}
use Rattle.ips_next.proofs.Recorded.{over_asked}
use Rattle.ips_next.proofs.Phases.{unposed_undecided}
use Rattle.ips_next.proofs.deciding.avoided.Goals as goal

pub returns-in-Err-Bad-clause-refused : goal.returns-in-Err-Bad-clause-refused
returns-in-Err-Bad-clause-refused g c = λ told old asked_by posed.
    let held = (g.S.Source.outside.state c.args.source.now).held in
    let asked = recorded c.args.asked.now in
    let f = rw c.in-Err-Bad.field-0-is at (c.in-Err-Bad.ensures.refused told) in
    rw c.in-Err-Bad.field-0-is (subst (IsUndecided c.args.what.now old asked held) (sym f.1) (unposed_undecided c.args.what.now old asked held f.0 (record {
      request = c.args.request.now;
      is_request = posed.is_request;
      repository = _;
      looked_at = posed.looked_at;
      over = asked;
      is_over = inr refl;
      fault = f.2;
    }) (subst (MayCome (kind_asked c.args.what.now)) f.1 (rw c.in-Err-Bad.field-0-is at (c.in-Err-Bad.ensures.early (kind_asked c.args.what.now) (sym c.requires.kind))))))

pub returns-in-Err-Bad-clause-early : goal.returns-in-Err-Bad-clause-early
returns-in-Err-Bad-clause-early g c = rw c.in-Err-Bad.field-0-is (rw c.in-Err-Bad.field-0-is at (c.in-Err-Bad.ensures.early (kind_asked c.args.what.now) (sym c.requires.kind)))

pub returns-in-Ok-clause-stems : goal.returns-in-Ok-clause-stems
returns-in-Ok-clause-stems g c = c.in-Ok.ensures.lawful c.requires.recordable

pub returns-in-Ok-clause-avoided : goal.returns-in-Ok-clause-avoided
returns-in-Ok-clause-avoided g c = λ told old posed.
    let p = posed_of c.args.problem.now in
    let over = over_asked c.args.what.now old (recorded c.args.asked.now) c.in_default.not-Avoid c.in_default.not-Unavoid in
    (p, subst (λ s. IsAsked c.args.request.now s (option_map (λ r. r.now) c.args.repo) (g.S.Source.outside.state c.args.source.now).held p) over posed.posed, c.in-Ok.ensures.avoided)
