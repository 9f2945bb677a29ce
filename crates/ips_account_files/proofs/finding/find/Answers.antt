use Rattle.std.proofs.Common.{List, ℕ, IfOk, subst}
use Rattle.ips_after.specs.Request.{Request}
use Rattle.ips_account_files.specs.Around.{IsSilentOver, around}
use Rattle.ips_account_files.specs.Finding.{IsFound}
use Rattle.ips_account_files.proofs.finding.find.Goals as goal

pub returns-clause-found : goal.returns-clause-found
returns-clause-found g c =
    let rows = c.args.surveyed.rows.now in
    let s = c.args.surveyed.settled.now in
    let a = around g.F.Source.outside g.S.Source.outside c.args.folder.now c.args.source.now c.args.surveyed.publisher.now rows s in
    subst (λ (q : List ℕ). IfOk c.find_at.result (λ found. (r : Request) → IsSilentOver a rows s r → IsFound a r q c.args.mode c.args.elsewhere found)) c.in-Ok.ensures.found c.find_at.ensures.found
