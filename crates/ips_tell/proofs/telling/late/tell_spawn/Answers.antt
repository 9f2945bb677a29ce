use Rattle.std.proofs.Common.{ℕ, List, ◌++◌, ◌∷◌, [], subst}
use lib.Chars.{codes}
use Rattle.ips_report.specs.Report.{when_text}
use Rattle.ips_files.specs.Telling.{Tells}
use Rattle.ips_tell.proofs.telling.late.tell_spawn.Goals as goal

pub returns : goal.returns
returns g c = subst (λ (w : List ℕ). Tells g.O.Sink.taking ((codes "spawn fault " ++ w) ++ 10 ∷ []) c.args.out.now c.put.new.out c.put.result) c.when.ensures
    (c.put.ensures c.args.out.now (codes "spawn fault " ++ c.when.result.now) (c.put-told.ensures c.args.out.now (codes "spawn fault ") c.tell-told.ensures))
