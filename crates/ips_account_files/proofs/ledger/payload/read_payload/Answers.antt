use Rattle.std.proofs.Common.{◌≡◌, Err, refl}
use Rattle.ips_text.specs.declared.refusal.Or.TheVariants.{Bad}
use Rattle.ips_outside.proofs.Reading.{handed_on, no_fault, reads_as}
use Rattle.ips_account_files.specs.declared.ledger.fault.LedgerFault.TheVariants as fault
use Rattle.ips_account_files.proofs.ledger.Answered.{never_err}
use Rattle.ips_account_files.proofs.ledger.payload.read_payload.Goals as goal

pub returns-in-Ok-clause-reads : goal.returns-in-Ok-clause-reads
returns-in-Ok-clause-reads g c = reads_as g.S.Source.outside c.args.source.now c.fetch.new.source (c.fetch.result ≡ Err (Bad fault.SourceFault)) _ c.fetch.ensures.reads
    (λ f. absurd (no_fault c.fetch.result _ (Bad fault.SourceFault) c.in-Ok.is f)) (λ f. absurd (never_err _ (Bad fault.SourceFault) f))

pub returns-clause-reads : goal.returns-clause-reads
returns-clause-reads g c = reads_as g.S.Source.outside c.args.source.now c.fetch.new.source (c.fetch.result ≡ Err (Bad fault.SourceFault)) _ c.fetch.ensures.reads
    (handed_on (Err c.in-Err.fault) c.fetch.result c.in-Err.fault (Bad fault.SourceFault) refl c.in-Err.is) (handed_on c.fetch.result (Err c.in-Err.fault) c.in-Err.fault (Bad fault.SourceFault) c.in-Err.is refl)
