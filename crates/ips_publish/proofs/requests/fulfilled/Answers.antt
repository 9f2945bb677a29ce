use Rattle.std.proofs.Common.{◌∙◌, sym, subst}
use Rattle.ips_fmri.specs.Name.{IsPublisher}
use Rattle.ips_outside.proofs.Reading.{reads_none}
use Rattle.ips_send_words.specs.declared.request.Request.{Request}
use Rattle.ips_publish.specs.Comes.{Does}
use Rattle.ips_publish.specs.Sent.{IsFit}
use Rattle.ips_publish.proofs.Outcomes.{made_unread}
use Rattle.ips_publish.proofs.Promises.{makes_so}
use Rattle.ips_publish.proofs.requests.fulfilled.Goals as goal

pub created-requires-clause-publisher : goal.created-requires-clause-publisher
created-requires-clause-publisher g c = subst IsPublisher (sym c.as_str.ensures) (subst IsFit c.in-Create.is c.requires.fit)

pub returns-in-Create-clause-does : goal.returns-in-Create-clause-does
returns-in-Create-clause-does g c =
    let ends = c.created.ensures.ends in
    makes_so g.S.Source.outside g.F.Source.outside g.met.F.Source.sane c.args.proto.now c.args.target.now c.created.new.target c.args.request c.in-Create.publisher c.as_str.result.now ends.0 c.created.result
    c.in-Create.is c.as_str.ensures ends.1 ends.2

pub returns-in-Create-clause-source : goal.returns-in-Create-clause-source
returns-in-Create-clause-source g c =
    let ends = c.created.ensures.ends in
    reads_none g.S.Source.outside c.args.proto.now _ (λ is. made_unread ends.0 (sym ends.1 ∙ is))

pub published-requires-clause-asked : goal.published-requires-clause-asked
published-requires-clause-asked g c = let fit = subst IsFit c.in-Publish.is c.requires.fit in record { publisher = fit.0; stem = fit.1; version = fit.2 }

pub returns-in-Publish-clause-does : goal.returns-in-Publish-clause-does
returns-in-Publish-clause-does g c =
    subst (λ (r : Request). Does g.S.Source.outside g.F.Source.outside c.args.proto.now c.args.target.now c.published.new.target r c.published.result) (sym c.in-Publish.is) c.published.ensures.does
