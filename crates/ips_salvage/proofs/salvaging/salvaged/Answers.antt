use Rattle.std.proofs.Common.{Bool, List, sym, ◌∙◌, subst}
use Rattle.ips_after.specs.Request.{takes}
use Rattle.ips_change.specs.survey.Marks.{IsMarkOf, row_paths}
use Rattle.ips_salvage.proofs.salvaging.salvaged.Goals as goal

pub returns-clause-found : goal.returns-clause-found
returns-clause-found g c = λ told r table looked marked.
    let t = (g.F.Source.outside.state c.args.folder.now).held in
    let away = subst (λ (l : List Bool). IsMarkOf (λ q. takes (r.over.at q)) (row_paths c.args.table.now.rows.items) l) (sym c.deref-2.ensures.value) (c.in_ok-away.ensures.marks r table) in
    c.in_ok-ask_all.ensures.found told r table looked away (c.deref.ensures.value ∙ c.in_ok-going.ensures.told r t table looked marked)
