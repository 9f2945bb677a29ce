use Rattle.std.proofs.Common.{◌≡◌, ◌++◌, List, ℕ, Option, sym, ◌∙◌, subst}
use Rattle.std.proofs.lemmas.Result.{IfOk-weaker}
use Rattle.ips_text.specs.Path.{IsPath}
use Rattle.ips_after.specs.Planned.{IsProperRequest}
use Rattle.ips_after.specs.Request.{Request}
use Rattle.ips_change.specs.Told.{naming}
use Rattle.ips_change.specs.survey.Tables.{IsTable}
use Rattle.ips_change.specs.declared.survey.said.Said.{Said}
use Rattle.ips_aside.specs.declared.sides.side.SideName.{SideName}
use Rattle.ips_aside.specs.sides.Sides.{IsNameOf, ending_of}
use Rattle.ips_aside.proofs.sides.Named.{long_name}
use Rattle.ips_aside.proofs.sides.naming.name_beside.Goals as goal

pub returns-in-Ok-clause-found : goal.returns-in-Ok-clause-found
returns-in-Ok-clause-found g c = λ told.
    let t = (g.S.Source.outside.state c.args.source.now).held in
    let rows = c.args.rows.now in
    let q = c.args.path.now.bytes ++ ending_of c.args.put in
    let same : c.in-Ok.name.bytes ≡ q = c.in-Ok.ensures.found ∙ c.deref.ensures.value ∙ c.in_ok-text.ensures.joined in
    IfOk-weaker c.judge.result (λ (x : SideName). (r : Request) (said : List (Option Said)) → IsTable r rows said → IsNameOf (naming r) t c.in-Ok.name.bytes x)
    (λ (x : SideName). (r : Request) (said : List (Option Said)) → IsProperRequest r → IsTable r rows said → IsNameOf (naming r) t q x)
    (λ x all r said proper table. subst (λ (p : List ℕ). IsNameOf (naming r) t p x) same (all r said table)) (c.judge.ensures.found told)

pub returns-in-Err-Bad-clause-found : goal.returns-in-Err-Bad-clause-found
returns-in-Err-Bad-clause-found g c = λ told r said proper table.
    let bytes = c.deref.ensures.value ∙ c.in_ok-text.ensures.joined in
    long_name r (g.S.Source.outside.state c.args.source.now).held c.args.path.now.bytes c.args.put proper (g.met.S.Source.sane.formed c.args.source.now told) c.in_ok-text.ensures.path
    (λ is. (rw c.in-Err-Bad.field-0-is at c.in-Err-Bad.ensures.only) (subst IsPath (sym bytes) is))
