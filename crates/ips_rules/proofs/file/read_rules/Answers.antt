use Rattle.std.proofs.Common.{ℕ, arith}
use Rattle.std.proofs.lemmas.Result.{err_from_is_err_and}
use Rattle.ips_rules.proofs.Behind.{text_bad, rule_bad, behind_more}
use Rattle.ips_rules.proofs.file.read_rules.Goals as goal

pub returns-in_err-text-clause-bad : goal.returns-in_err-text-clause-bad
returns-in_err-text-clause-bad c =
    let p = err_from_is_err_and c.from_residual.result c.from_residual.ensures.1 in
    rw (p.1, p.2) (text_bad ℕ ℕ c.in_err-text.field-0.0 _ c.loop-rest.rules.items c.loop-rest.rest.number c.loop-rest.rest.bytes.now c.loop-rest.invariant.behind c.in_err-text.ensures.bad)

pub returns-in_err-rule-clause-bad : goal.returns-in_err-rule-clause-bad
returns-in_err-rule-clause-bad c =
    let p = err_from_is_err_and c.from_residual-in_err-rule.result c.from_residual-in_err-rule.ensures.1 in
    rw (p.1, p.2)
    (rule_bad ℕ ℕ c.in_err-rule.field-0.0 _ c.loop-rest.rules.items c.loop-rest.rest.number c.loop-rest.rest.bytes.now c.as_str.result.now _ c.in_ok-text.behind.number c.in_ok-text.behind.bytes.now c.loop-rest.invariant.behind c.in_ok-text.ensures.found c.as_str.ensures c.in_err-rule.ensures.bad)

pub loop-rest-preserved-in_ok-add : goal.loop-rest-preserved-in_ok-add
loop-rest-preserved-in_ok-add c = record {
  behind = behind_more _ c.loop-rest.rules.items _ c.loop-rest.rest.number c.loop-rest.rest.bytes.now c.as_str.result.now _ c.in_ok-text.behind.number c.in_ok-text.behind.bytes.now c.in_ok-rule.rule c.loop-rest.invariant.behind c.in_ok-text.ensures.found c.as_str.ensures c.in_ok-rule.ensures.found c.in_ok-add.ensures;
  room = omega (arith, c.in_ok-text.ensures.found.room, c.loop-rest.invariant.room);
}

pub loop-rest-preserved : goal.loop-rest-preserved
loop-rest-preserved c = record {
  behind = behind_more _ c.loop-rest.rules.items _ c.loop-rest.rest.number c.loop-rest.rest.bytes.now c.as_str.result.now _ c.in_ok-text.behind.number c.in_ok-text.behind.bytes.now c.in_ok-rule.rule c.loop-rest.invariant.behind c.in_ok-text.ensures.found c.as_str.ensures c.in_ok-rule.ensures.found c.in_ok-add.ensures;
  room = omega (arith, c.in_ok-text.ensures.found.room, c.loop-rest.invariant.room);
}
