use Rattle.std.proofs.Common.{◌≡◌, ◌∙◌, ℕ, List, sym, ap, rules}
use Rattle.ips_outside.proofs.Reading.{reads_none}
use Rattle.ips_sends.specs.Published.{fmri_text}
use Rattle.ips_published.specs.Ending.{Ending}
use Rattle.ips_send_report.specs.declared.outcome.SendOutcome.TheVariants as outcome
use Rattle.ips_publish.specs.Told.{published_as}
use Rattle.ips_publish.proofs.Causes.{published_cause, published_reads}
use Rattle.ips_publish.proofs.Sorted.{taken_in}
use Rattle.ips_publish.proofs.Promises.{publishes_none, publishes_so}
use Rattle.ips_publish.proofs.requests.published.Goals as goal

pub returns-in-Err-clause-does : goal.returns-in-Err-clause-does
returns-in-Err-clause-does g c = publishes_none g.S.Source.outside g.F.Source.outside g.met.F.Source.sane c.args.proto.now c.args.target.now c.args.asked.now c.requires.asked

pub returns-in-Err-clause-source : goal.returns-in-Err-clause-source
returns-in-Err-clause-source g c = reads_none g.S.Source.outside c.args.proto.now _ (λ is. cc)

pub returns-then-not-all_taken-clause-does : goal.returns-then-not-all_taken-clause-does
returns-then-not-all_taken-clause-does g c = publishes_none g.S.Source.outside g.F.Source.outside g.met.F.Source.sane c.args.proto.now c.args.target.now c.args.asked.now c.requires.asked

pub returns-then-not-all_taken-clause-source : goal.returns-then-not-all_taken-clause-source
returns-then-not-all_taken-clause-source g c = reads_none g.S.Source.outside c.args.proto.now _ (λ is. cc)

pub publish-requires-clause-takers : goal.publish-requires-clause-takers
publish-requires-clause-takers g c =
    taken_in (λ k. (goal.Kind-dyn g (k.vtable, k.value)).sorts k.value) (λ k. (goal.Kind-dyn g (k.vtable, k.value)).finished k.value) c.deref.result.now c.args.kinds.now.items c.deref.ensures.value
    (c.all_taken.ensures c.if-not-all_taken.false)

pub returns-in-Ok-publish-clause-does : goal.returns-in-Ok-publish-clause-does
returns-in-Ok-publish-clause-does g c =
    let a = c.args.asked.now in
    let named : c.in-Ok.fmri ≡ fmri_text a.publisher a.stem a.version = search rules in
    publishes_so g.S.Source.outside g.F.Source.outside g.met.F.Source.sane c.args.proto.now c.args.target.now c.publish.new.target a c.requires.asked c.publish.result (outcome.Published c.in-Ok.fmri)
    (ap (λ (x : Ending). published_as a x) c.in-Ok-publish.is ∙ ap (λ (text : List ℕ). outcome.Published text) (sym named))
    (λ tells told. c.publish.ensures.ends tells told c.requires.asked)

pub returns-in-Ok-publish-clause-source : goal.returns-in-Ok-publish-clause-source
returns-in-Ok-publish-clause-source g c =
    let a = c.args.asked.now in
    let named : c.in-Ok.fmri ≡ fmri_text a.publisher a.stem a.version = search rules in
    published_reads a g.S.Source.outside c.args.proto.now c.publish.new.proto c.publish.result (outcome.Published c.in-Ok.fmri)
    (ap (λ (x : Ending). published_as a x) c.in-Ok-publish.is ∙ ap (λ (text : List ℕ). outcome.Published text) (sym named))
    c.publish.ensures.reads_proto

pub returns-in-Ok-publish-clause-folder : goal.returns-in-Ok-publish-clause-folder
returns-in-Ok-publish-clause-folder g c =
    let a = c.args.asked.now in
    let named : c.in-Ok.fmri ≡ fmri_text a.publisher a.stem a.version = search rules in
    published_cause a _ _ c.publish.result (outcome.Published c.in-Ok.fmri) (ap (λ (x : Ending). published_as a x) c.in-Ok-publish.is ∙ ap (λ (text : List ℕ). outcome.Published text) (sym named)) c.publish.ensures.cause

pub returns-in-Err-publish-clause-does : goal.returns-in-Err-publish-clause-does
returns-in-Err-publish-clause-does g c =
    let a = c.args.asked.now in
    publishes_so g.S.Source.outside g.F.Source.outside g.met.F.Source.sane c.args.proto.now c.args.target.now c.publish.new.target a c.requires.asked c.publish.result c.unpublished.result
    (ap (λ (x : Ending). published_as a x) c.in-Err-publish.is ∙ sym c.unpublished.ensures)
    (λ tells told. c.publish.ensures.ends tells told c.requires.asked)

pub returns-in-Err-publish-clause-source : goal.returns-in-Err-publish-clause-source
returns-in-Err-publish-clause-source g c =
    let a = c.args.asked.now in
    published_reads a g.S.Source.outside c.args.proto.now c.publish.new.proto c.publish.result c.unpublished.result (ap (λ (x : Ending). published_as a x) c.in-Err-publish.is ∙ sym c.unpublished.ensures) c.publish.ensures.reads_proto

pub returns-in-Err-publish-clause-folder : goal.returns-in-Err-publish-clause-folder
returns-in-Err-publish-clause-folder g c =
    let a = c.args.asked.now in
    published_cause a _ _ c.publish.result c.unpublished.result (ap (λ (x : Ending). published_as a x) c.in-Err-publish.is ∙ sym c.unpublished.ensures) c.publish.ensures.cause
