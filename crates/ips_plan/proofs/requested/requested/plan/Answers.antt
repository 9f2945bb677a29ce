use Rattle.ips_plan.proofs.request_plan.Calls.{starved_before}
use Rattle.ips_plan.proofs.requested.requested.plan.Goals as goal

pub returns-in-Err : goal.returns-in-Err
returns-in-Err g c = record {
  plans = starved_before g.F.Source.outside g.S.Source.outside _ _ c.args.folder.now c.args.source.now;
  lists = tt;
  seen = tt;
  stages = λ told. tt;
  meant = λ told tells. tt;
}
