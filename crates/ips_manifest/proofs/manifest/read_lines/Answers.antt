use Rattle.std.proofs.Common.{ℕ, arith}
use Rattle.std.proofs.lemmas.Result.{err_from_is_err_and}
use Rattle.ips_action.specs.Meaning.{Means, IsFirstFault}
use Rattle.ips_manifest.specs.Manifest.{line_at}
use Rattle.ips_manifest.proofs.Gone.{text_refuses, text_fault, action_refuses, action_fault, gone_next}
use Rattle.ips_manifest.proofs.manifest.read_lines.Goals as goal

pub returns-in_err-text-clause-only : goal.returns-in_err-text-clause-only
returns-in_err-text-clause-only c = λ others means.
    let p = err_from_is_err_and c.from_residual.result c.from_residual.ensures.1 in
    rw (p.1, p.2) (text_refuses Means line_at IsFirstFault ℕ c.in_err-text.field-0.0 _ c.loop-rest.lines.items c.loop-rest.rest.number c.loop-rest.rest.bytes.now c.loop-rest.invariant.gone c.in_err-text.ensures.bad others means)

pub returns-in_err-text-clause-fault : goal.returns-in_err-text-clause-fault
returns-in_err-text-clause-fault c =
    let p = err_from_is_err_and c.from_residual.result c.from_residual.ensures.1 in
    rw (p.1, p.2) (text_fault Means line_at IsFirstFault ℕ ℕ c.in_err-text.field-0.0 _ c.loop-rest.lines.items c.loop-rest.rest.number c.loop-rest.rest.bytes.now c.loop-rest.invariant.gone c.in_err-text.ensures.bad)

pub returns-in_err-action-clause-only : goal.returns-in_err-action-clause-only
returns-in_err-action-clause-only c = λ others means.
    let p = err_from_is_err_and c.from_residual-in_err-action.result c.from_residual-in_err-action.ensures.1 in
    rw (p.1, p.2)
    (action_refuses Means line_at IsFirstFault ℕ c.in_err-action.field-0.0 _ c.loop-rest.lines.items c.loop-rest.rest.number c.loop-rest.rest.bytes.now c.as_str.result.now _ c.in_ok-text.behind.number c.in_ok-text.behind.bytes.now c.loop-rest.invariant.gone c.in_ok-text.ensures.found c.as_str.ensures c.in_err-action.ensures.bad others means)

pub returns-in_err-action-clause-fault : goal.returns-in_err-action-clause-fault
returns-in_err-action-clause-fault c =
    let p = err_from_is_err_and c.from_residual-in_err-action.result c.from_residual-in_err-action.ensures.1 in
    rw (p.1, p.2)
    (action_fault Means line_at IsFirstFault ℕ ℕ c.in_err-action.field-0.0 _ c.loop-rest.lines.items c.loop-rest.rest.number c.loop-rest.rest.bytes.now c.as_str.result.now _ c.in_ok-text.behind.number c.in_ok-text.behind.bytes.now c.loop-rest.invariant.gone c.in_ok-text.ensures.found c.as_str.ensures c.in_err-action.ensures.bad)

pub loop-rest-preserved-in_ok-add : goal.loop-rest-preserved-in_ok-add
loop-rest-preserved-in_ok-add c = record {
  gone = gone_next Means line_at _ c.loop-rest.lines.items c.loop-rest.rest.number c.loop-rest.rest.bytes.now c.as_str.result.now _ c.in_ok-text.behind.number c.in_ok-text.behind.bytes.now c.in_ok-action.action c.add.new.lines.items c.loop-rest.invariant.gone c.in_ok-text.ensures.found c.as_str.ensures c.in_ok-action.ensures.found c.in_ok-action.ensures.only c.in_ok-add.ensures;
  room = omega (arith, c.in_ok-text.ensures.found.room, c.loop-rest.invariant.room);
}

pub loop-rest-preserved : goal.loop-rest-preserved
loop-rest-preserved c = record {
  gone = gone_next Means line_at _ c.loop-rest.lines.items c.loop-rest.rest.number c.loop-rest.rest.bytes.now c.as_str.result.now _ c.in_ok-text.behind.number c.in_ok-text.behind.bytes.now c.in_ok-action.action c.add.new.lines.items c.loop-rest.invariant.gone c.in_ok-text.ensures.found c.as_str.ensures c.in_ok-action.ensures.found c.in_ok-action.ensures.only c.in_ok-add.ensures;
  room = omega (arith, c.in_ok-text.ensures.found.room, c.loop-rest.invariant.room);
}
