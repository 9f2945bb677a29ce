use Rattle.std.proofs.Common.{Bool, ◌∙◌, ap, Bor}
use Rattle.std.specs.Option.{option_map}
use Rattle.ips_preserve.specs.declared.case.Event.{Event}
use Rattle.ips_preserve.specs.declared.case.Standing.{Standing}
use Rattle.ips_preserve.specs.Keep.{keep}
use Rattle.ips_digest.specs.Name.{spelling}
use Rattle.ips_meaning.specs.declared.entry.Entry.{Entry}
use Rattle.ips_after.specs.After.{event_of, has_new_payload}
use Rattle.ips_change.specs.wanted.Wanted.{wanted_of}
use Rattle.ips_change.specs.Stands.{standing_seen}
use Rattle.ips_change.proofs.Answered.{answered, case_of}
use Rattle.ips_change.proofs.answering.answer.Goals as goal

pub returns : goal.returns
returns c = λ r m e h.
    let was = option_map (λ (x : Bor Entry). wanted_of x.now) c.args.old in
    let payload = spelling c.args.payload.now in
    c.decide.ensures
    ∙ ap (λ (x : Event). keep (case_of c.args.preserve x c.standing.result c.turn-event.result.1)) c.turn-event.ensures.event
    ∙ ap (λ (x : Bool). keep (case_of c.args.preserve (event_of was) c.standing.result x)) c.turn-event.ensures.changed
    ∙ ap (λ (x : Standing). keep (case_of c.args.preserve (event_of was) x (has_new_payload was payload))) (c.standing.ensures ∙ ap standing_seen h)
    ∙ answered r was payload m c.args.preserve e
