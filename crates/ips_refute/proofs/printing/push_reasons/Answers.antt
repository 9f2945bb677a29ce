use Rattle.std.proofs.Common.{◌≡◌, ◌++◌, List, ℕ, string_bytes, subst}
use Rattle.std.specs.Prelude.{OnOk}
use Rattle.ips_refute.proofs.InRuns.{listed_runs}
use Rattle.ips_refute.proofs.printing.push_reasons.Goals as goal

pub returns : goal.returns
returns c =
    rw c.in-Some.ensures.cases.0
    (subst (λ (text : List ℕ). OnOk c.push_runs.result (string_bytes c.push_runs.new.out ≡ string_bytes c.args.out.now ++ text)) (listed_runs c.in-Some.first.now 1 c.in-Some.others.now) c.push_runs.ensures)
