use Rattle.std.proofs.lemmas.Result.{IfOk-weaker}
use Rattle.ips_state.specs.State.{recorded}
use Rattle.ips_due.specs.Due.{Due, HasProperDue, IsDue, MeansSame}
use Rattle.ips_due.specs.Delivered.{creation_due}
use Rattle.ips_request_due.proofs.Meaning.{turned}
use Rattle.ips_request_due.proofs.creating.creation_due.Goals as goal

pub returns-clause-together : goal.returns-clause-together
returns-clause-together c =
    let due = creation_due (recorded c.args.new.now) in
    IfOk-weaker c.of_state.result (λ (made : Due). MeansSame made due) IsDue (λ made same. c.due_is_told_by_paths.ensures.together due made (turned made due same) (c.creations_hang_together.ensures (recorded c.args.new.now))) c.of_state.ensures

pub returns-clause-proper : goal.returns-clause-proper
returns-clause-proper c =
    let due = creation_due (recorded c.args.new.now) in
    IfOk-weaker c.of_state.result (λ (made : Due). MeansSame made due) HasProperDue
    (λ made same. c.due_is_told_by_paths.ensures.proper due made (turned made due same) (c.creations_have_proper_due.ensures (recorded c.args.new.now) c.requires)) c.of_state.ensures
