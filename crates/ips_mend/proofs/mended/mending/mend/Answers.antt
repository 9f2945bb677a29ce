use Rattle.std.proofs.Common.{ℕ, List, sym, subst}
use Rattle.ips_change.specs.wanted.Wanted.{want_of}
use Rattle.ips_change.specs.declared.change.Change.{Change}
use Rattle.ips_change.specs.Fitting.{Fits}
use Rattle.ips_change.specs.declared.survey.row.Row.{Row}
use Rattle.ips_links.specs.Fitting.{AllFit}
use Rattle.ips_mend.specs.mended.Mending.{AllFitAt}
use Rattle.ips_mend.proofs.mended.Merged.{fit_at}
use Rattle.ips_mend.proofs.mended.mending.mend.Goals as goal

pub returns-in-Ok-clause-fits : goal.returns-in-Ok-clause-fits
returns-in-Ok-clause-fits g c =
    let want = want_of c.args.want.now in
    let rows = c.in_ok-rows.rows.items in
    let changes = c.in-Ok.changes.items in
    let own : AllFit Fits c.deref-2.result.now c.deref-3.result.now =
    subst (λ (l : List Row). AllFit Fits l c.deref-3.result.now) (sym c.deref-2.ensures.value)
    (subst (λ (l : List Change). AllFit Fits rows l) (sym c.deref-3.ensures.value) (subst (λ (l : List Row). AllFit Fits l c.in_ok-own.own.items) c.deref.ensures.value c.in_ok-own.ensures.fits)) in
    let all : AllFit Fits rows changes = subst (λ (l : List Row). AllFit Fits l changes) c.deref-2.ensures.value (c.in-Ok.ensures.fits own) in
    subst (λ (l : List (List ℕ)). AllFitAt want l changes) c.in_ok-rows.ensures.paths (fit_at want rows changes c.in_ok-rows.ensures.entries all)
