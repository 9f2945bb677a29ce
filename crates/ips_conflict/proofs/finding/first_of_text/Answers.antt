use Rattle.std.proofs.Common.{subst}
use Rattle.ips_conflict.specs.Key.{Key}
use Rattle.ips_conflict.specs.Search.{IsFirstOver, conflict}
use Rattle.ips_conflict.proofs.FirstOver.{first_of, second_within}
use Rattle.ips_conflict.proofs.finding.first_of_text.Goals as goal

pub tell-requires-clause-second : goal.tell-requires-clause-second
tell-requires-clause-second c =
    let key : Key = record { sort = c.ranked-sort.result; text = c.args.text.now } in
    let found = c.in-Some.found in
    let over = subst (IsFirstOver c.args.placed.now key) c.in-Some.is c.in_ok-found.ensures in
    second_within c.args.placed.now (conflict key found.rule found.first found.second) over.0

pub returns-in-Some : goal.returns-in-Some
returns-in-Some c =
    let key : Key = record { sort = c.ranked-sort.result; text = c.args.text.now } in
    let over = subst (IsFirstOver c.args.placed.now key) c.in-Some.is c.in_ok-found.ensures in
    first_of c.args.placed.now c.args.text.now c.ranked-sort.result c.loop-rank.rank c.in-Some.found c.in_ok-tell.field-0 c.ranked-sort.ensures c.loop-rank.invariant over c.in_ok-tell.ensures
