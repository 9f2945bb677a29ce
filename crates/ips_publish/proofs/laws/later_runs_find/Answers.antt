use Rattle.std.proofs.Common.{refl, ◌∙◌}
use Rattle.ips_journal.specs.Text.{journal_text}
use Rattle.ips_sends.specs.Whole.{AreWholeOrOut}
use Rattle.ips_sends.proofs.Stops.{kept, found}
use Rattle.ips_send_report.specs.declared.outcome.SendOutcome.TheVariants as outcome
use Rattle.ips_publish.proofs.Findings.{settled_at, never_bad}
use Rattle.ips_publish.proofs.laws.later_runs_find.Goals as goal

pub returns-clause-found : goal.returns-clause-found
returns-clause-found g c = λ xs words moment source source_new old new before now x told sends sent sound.
    let o = g.F.Source.outside in
    let s = settled_at g.S.Source.outside o words moment source old new before now told x sent.comes sound in
    (s.0, s.1, s.2, found journal_text o AreWholeOrOut xs old s.0 sends s.2.has)

pub returns-clause-readable : goal.returns-clause-readable
returns-clause-readable g c = λ xs words moment source source_new old new before now line tells told sends sent.
    let o = g.F.Source.outside in
    never_bad g.S.Source.outside o words moment source old new before now told (outcome.BadJournal line) sent.comes line refl tells (sent.same_kind ∙ told) (AreWholeOrOut xs)
    (kept journal_text o AreWholeOrOut xs (o.state old) sends)
