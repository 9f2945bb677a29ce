use Rattle.std.proofs.Common.{◌≡◌, List, Global, Vec, sym, ap, subst, ◌∙◌}
use Rattle.ips_text.specs.Kept.{Kept}
use Rattle.ips_text.specs.declared.refusal.Or.TheVariants.{Bad}
use Rattle.ips_outside.proofs.Reading.{no_fault, reads_as}
use Rattle.ips_ways.specs.Ways.{IsFree}
use Rattle.ips_sends.specs.Judged.{ways}
use Rattle.ips_prepare.specs.declared.prepared.Content.{Content}
use Rattle.ips_prepare.specs.Prepared.{actions_of, names_of}
use Rattle.ips_judged.specs.declared.verdict.Publication.{Publication}
use Rattle.ips_judged.specs.declared.verdict.JudgeFault.TheVariants as fault
use Rattle.ips_judged.proofs.Ends.{publishes, over_says, barred_says, of_ways, none_of_folder, own_refusal}
use Rattle.ips_judged.proofs.building.of_prepared.Goals as goal

pub returns-in-Ok-clause-publishes : goal.returns-in-Ok-clause-publishes
returns-in-Ok-clause-publishes g c = λ told proto are.
    publishes proto (g.F.Source.outside.state c.args.target.now).held c.args.asked.now c.args.repo.now.catalog (actions_of c.args.prepared.manifest.lines.items) are (names_of c.as_slice.result.now) (ap names_of c.as_slice.ensures.value ∙ c.requires.contents)
    c.with_texts.result (c.in-Ok.ensures.free told) c.with_texts.ensures.put c.with_texts.ensures.within

pub returns-in-Ok-clause-refused : goal.returns-in-Ok-clause-refused
returns-in-Ok-clause-refused g c = λ told proto are.
    over_says proto (g.F.Source.outside.state c.args.target.now).held c.args.asked.now c.args.repo.now.catalog (actions_of c.args.prepared.manifest.lines.items) are (names_of c.as_slice.result.now) (ap names_of c.as_slice.ensures.value ∙ c.requires.contents)
    c.with_texts.result (c.in-Ok.ensures.free told) c.with_texts.ensures.over

pub returns-in-Ok-clause-ways : goal.returns-in-Ok-clause-ways
returns-in-Ok-clause-ways g c =
    of_ways (λ w. w ≡ ways c.args.asked.now.publisher c.args.asked.now.stem (names_of c.args.prepared.contents.items)) c.with_texts.result c.in-Ok.ways.items c.with_texts.ensures.ways
    (c.in-Ok.ensures.ways ∙ ap (λ (l : List Content). ways c.args.asked.now.publisher c.args.asked.now.stem (names_of l)) c.as_slice.ensures.value)

pub returns-in-Ok-clause-free : goal.returns-in-Ok-clause-free
returns-in-Ok-clause-free g c = λ told.
    let t = (g.F.Source.outside.state c.args.target.now).held in
    of_ways (IsFree t) c.with_texts.result c.in-Ok.ways.items c.with_texts.ensures.ways (subst (IsFree t) (sym c.in-Ok.ensures.ways) (c.in-Ok.ensures.free told))

pub returns-in-Ok-clause-own : goal.returns-in-Ok-clause-own
returns-in-Ok-clause-own g c = own_refusal Publication c.with_texts.result c.with_texts.ensures.refused

pub returns-in-Ok-clause-reads : goal.returns-in-Ok-clause-reads
returns-in-Ok-clause-reads g c =
    reads_as g.F.Source.outside c.args.target.now c.free_ways.new.target _ _ c.free_ways.ensures.reads (λ failed. absurd (no_fault c.free_ways.result c.in-Ok.ways (Bad fault.FolderFault) c.in-Ok.is failed))
    (λ failed. absurd (none_of_folder Publication c.with_texts.result c.with_texts.ensures.refused failed))

pub returns-in-Err-clause-refused : goal.returns-in-Err-clause-refused
returns-in-Err-clause-refused g c = λ told proto are.
    barred_says proto (g.F.Source.outside.state c.args.target.now).held c.args.asked.now c.args.repo.now.catalog (actions_of c.args.prepared.manifest.lines.items) are (names_of c.as_slice.result.now) (ap names_of c.as_slice.ensures.value ∙ c.requires.contents)
    (Vec Kept Global) Publication c.in-Err.fault (c.in-Err.ensures.barred told)
