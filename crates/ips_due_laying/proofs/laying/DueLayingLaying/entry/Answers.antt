use Rattle.std.proofs.Common.{◌≡◌, List, Option, Some, None, sym, ap, ◌∙◌}
use Rattle.std.specs.Option.{option_map}
use Rattle.std.proofs.lemmas.Result.{IfOk-weaker}
use Rattle.ips_due.specs.Due.{Due}
use Rattle.ips_laying.specs.Laying.{laid_told}
use Rattle.ips_laying.specs.declared.laying.Laid.{Laid}
use Rattle.ips_due.specs.outstanding.Parts.{due_of}
use Rattle.ips_due_laying.specs.Laying.{Place, laid_at, laid_by, laid_for, verdict_at}
use Rattle.ips_due_laying.proofs.LaidDue.{sought}
use Rattle.ips_due_laying.proofs.laying.DueLayingLaying.entry.Goals as goal

pub returns-in-Some : goal.returns-in-Some
returns-in-Some g c =
    let due : Due = due_of g.R.Records.records c.self.inside.due.now in
    let named = c.self.inside.named.now in
    let q = c.args.path.now.bytes in
    let is : verdict_at named q ≡ Some c.in-Some.verdict = sym c.verdict_at.ensures ∙ c.in-Some.is in
    let there : laid_at c.args.self.now q ≡ laid_by due c.in-Some.verdict = ap (λ (l : List Place). laid_at l q) (sym c.self.view_is) ∙ sought due named q ∙ ap (laid_for due) is in
    IfOk-weaker c.laid_by.result (λ (found : Option Laid). option_map laid_told found ≡ laid_by due c.in-Some.verdict) (λ (found : Option Laid). option_map laid_told found ≡ laid_at c.args.self.now q) (λ found own. own ∙ sym there) c.laid_by.ensures

pub returns-in-None : goal.returns-in-None
returns-in-None g c =
    let due : Due = due_of g.R.Records.records c.self.inside.due.now in
    let named = c.self.inside.named.now in
    let q = c.args.path.now.bytes in
    let is : verdict_at named q ≡ None = sym c.verdict_at.ensures ∙ c.in-None.is in
    sym (ap (λ (l : List Place). laid_at l q) (sym c.self.view_is) ∙ sought due named q ∙ ap (laid_for due) is)
