use Rattle.std.proofs.Common.{ℕ, arith}
use Rattle.std.proofs.lemmas.Result.{err_from_is_err_and}
use Rattle.ips_action.specs.Draft.{IsFirstDraftFault}
use Rattle.ips_manifest.specs.Draft.{MeansDrafted, draft_at}
use Rattle.ips_manifest.proofs.Gone.{text_refuses, text_fault, action_refuses, action_fault, gone_next}
use Rattle.ips_manifest.proofs.draft.read_drafts.Goals as goal

pub returns-in_err-text-clause-only : goal.returns-in_err-text-clause-only
returns-in_err-text-clause-only c = λ others means.
    let p = err_from_is_err_and c.from_residual.result c.from_residual.ensures.1 in
    rw (p.1, p.2) (text_refuses MeansDrafted draft_at IsFirstDraftFault ℕ c.in_err-text.field-0.0 _ c.loop-rest.drafts.items c.loop-rest.rest.number c.loop-rest.rest.bytes.now c.loop-rest.invariant.gone c.in_err-text.ensures.bad others means)

pub returns-in_err-text-clause-fault : goal.returns-in_err-text-clause-fault
returns-in_err-text-clause-fault c =
    let p = err_from_is_err_and c.from_residual.result c.from_residual.ensures.1 in
    rw (p.1, p.2) (text_fault MeansDrafted draft_at IsFirstDraftFault ℕ ℕ c.in_err-text.field-0.0 _ c.loop-rest.drafts.items c.loop-rest.rest.number c.loop-rest.rest.bytes.now c.loop-rest.invariant.gone c.in_err-text.ensures.bad)

pub returns-in_err-drafted-clause-only : goal.returns-in_err-drafted-clause-only
returns-in_err-drafted-clause-only c = λ others means.
    let p = err_from_is_err_and c.from_residual-in_err-drafted.result c.from_residual-in_err-drafted.ensures.1 in
    rw (p.1, p.2)
    (action_refuses MeansDrafted draft_at IsFirstDraftFault ℕ c.in_err-drafted.field-0.0 _ c.loop-rest.drafts.items c.loop-rest.rest.number c.loop-rest.rest.bytes.now c.as_str.result.now _ c.in_ok-text.behind.number c.in_ok-text.behind.bytes.now c.loop-rest.invariant.gone c.in_ok-text.ensures.found c.as_str.ensures c.in_err-drafted.ensures.bad others means)

pub returns-in_err-drafted-clause-fault : goal.returns-in_err-drafted-clause-fault
returns-in_err-drafted-clause-fault c =
    let p = err_from_is_err_and c.from_residual-in_err-drafted.result c.from_residual-in_err-drafted.ensures.1 in
    rw (p.1, p.2)
    (action_fault MeansDrafted draft_at IsFirstDraftFault ℕ ℕ c.in_err-drafted.field-0.0 _ c.loop-rest.drafts.items c.loop-rest.rest.number c.loop-rest.rest.bytes.now c.as_str.result.now _ c.in_ok-text.behind.number c.in_ok-text.behind.bytes.now c.loop-rest.invariant.gone c.in_ok-text.ensures.found c.as_str.ensures c.in_err-drafted.ensures.bad)

pub loop-rest-preserved-in_ok-add : goal.loop-rest-preserved-in_ok-add
loop-rest-preserved-in_ok-add c = record {
  gone = gone_next MeansDrafted draft_at _ c.loop-rest.drafts.items c.loop-rest.rest.number c.loop-rest.rest.bytes.now c.as_str.result.now _ c.in_ok-text.behind.number c.in_ok-text.behind.bytes.now c.in_ok-drafted.drafted c.add.new.drafts.items c.loop-rest.invariant.gone c.in_ok-text.ensures.found c.as_str.ensures c.in_ok-drafted.ensures.found c.in_ok-drafted.ensures.only c.in_ok-add.ensures;
  room = omega (arith, c.in_ok-text.ensures.found.room, c.loop-rest.invariant.room);
}

pub loop-rest-preserved : goal.loop-rest-preserved
loop-rest-preserved c = record {
  gone = gone_next MeansDrafted draft_at _ c.loop-rest.drafts.items c.loop-rest.rest.number c.loop-rest.rest.bytes.now c.as_str.result.now _ c.in_ok-text.behind.number c.in_ok-text.behind.bytes.now c.in_ok-drafted.drafted c.add.new.drafts.items c.loop-rest.invariant.gone c.in_ok-text.ensures.found c.as_str.ensures c.in_ok-drafted.ensures.found c.in_ok-drafted.ensures.only c.in_ok-add.ensures;
  room = omega (arith, c.in_ok-text.ensures.found.room, c.loop-rest.invariant.room);
}
