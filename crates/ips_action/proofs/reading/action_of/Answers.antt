use Rattle.std.proofs.Common.{◌≡◌, true, rules}
use Rattle.ips_action.specs.Judging.{takes_payload}
use Rattle.ips_action.proofs.Lines.{first_some, first_none}
use Rattle.ips_action.proofs.reading.action_of.Goals as goal

pub returns-in-Some-2-clause-first : goal.returns-in-Some-2-clause-first
returns-in-Some-2-clause-first c =
    let taken : takes_payload c.in-Some.kind ≡ true = search rules in
    first_some c.args.words c.in-Some.kind c.in-Some-2.word c.judged.result c.in-Some-2.is c.in-Some.ensures.some taken c.judged.ensures.first

pub returns-in-None-clause-first : goal.returns-in-None-clause-first
returns-in-None-clause-first c = first_none c.args.words c.in-Some.kind c.judged-in-None.result c.in-None.is c.in-Some.ensures.some c.judged-in-None.ensures.first
