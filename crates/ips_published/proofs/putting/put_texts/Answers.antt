use Rattle.std.proofs.Common.{◌≡◌, ◌⊎◌, true, false, sym, subst}
use Rattle.ips_text.specs.declared.refusal.Or.{Or}
use Rattle.ips_text.specs.Reading.{IfBad}
use Rattle.ips_outside.specs.Outside.{HasCause}
use Rattle.ips_outside.proofs.Faults.{cause_as}
use Rattle.ips_published.specs.declared.fault.PublishFault.{PublishFault}
use Rattle.ips_published.specs.declared.fault.PublishFault.TheVariants.{FolderFault}
use Rattle.ips_published.specs.Ending.{IsFolderFault, IsStopped}
use Rattle.ips_published.specs.Writing.{IsOfPutting}
use Rattle.ips_published.proofs.Faults.{ends, stopped_unput, put_faults, put_own, put_to, put_from}
use Rattle.ips_published.proofs.putting.put_texts.Goals as goal

pub returns-in-Err-clause-nothing : goal.returns-in-Err-clause-nothing
returns-in-Err-clause-nothing g c = λ told safe stopped. c.in-Err.ensures.nothing told safe (stopped_unput c.in-Err.fault (subst (λ (e : Or PublishFault). IsStopped (ends e)) c.unput.ensures stopped))

pub returns-in-Err-clause-faults : goal.returns-in-Err-clause-faults
returns-in-Err-clause-faults g c = λ told.
    subst (λ (e : Or PublishFault). IfBad (ends e) (λ why. (why ≡ FolderFault false) ⊎ (why ≡ FolderFault true))) (sym c.unput.ensures) (put_faults c.in-Err.fault (c.in-Err.ensures.faults told))

pub returns-in-Err-clause-own : goal.returns-in-Err-clause-own
returns-in-Err-clause-own g c = subst (λ (e : Or PublishFault). IfBad (ends e) IsOfPutting) (sym c.unput.ensures) (put_own c.in-Err.fault)

pub returns-in-Err-clause-cause : goal.returns-in-Err-clause-cause
returns-in-Err-clause-cause g c =
    subst (λ (e : Or PublishFault). HasCause (g.F.Source.outside.faults c.args.target.now) (g.F.Source.outside.faults c.put.new.folder) (IsFolderFault (ends e))) (sym c.unput.ensures)
    (cause_as _ _ _ _ c.in-Err.ensures.cause (put_to c.in-Err.fault) (put_from c.in-Err.fault))
