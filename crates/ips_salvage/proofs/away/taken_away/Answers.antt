use Rattle.std.proofs.Common.{◌∷◌, ◌++◌, [], Bool, List, length, map, take, take_all, sym, ◌∙◌, ap, subst, arith}
use Rattle.std.proofs.lemmas.List.{length-map}
use Rattle.ips_after.specs.Request.{takes}
use Rattle.ips_change.specs.survey.Marks.{IsMarkOf, row_paths}
use Rattle.ips_text.proofs.Lists.{map_item}
use Rattle.ips_salvage.specs.Destroying.{says_taken}
use Rattle.ips_salvage.proofs.Taking.{away_marked}
use Rattle.ips_salvage.proofs.away.taken_away.Goals as goal

pub loop-i-preserved : goal.loop-i-preserved
loop-i-preserved c =
    let said = c.args.table.now.said.items in
    let i = c.loop-i.i in
    let one = c.index.result.now in
    c.in_ok-push.ensures.items ∙ ap (λ (l : List Bool). l ++ c.is_taken_away.result ∷ []) c.loop-i.invariant
    ∙ ap (λ (b : Bool). map says_taken (take i said) ++ b ∷ []) c.is_taken_away.ensures
    ∙ sym (map_item says_taken said i one (omega (arith, c.loop-i-test.true, c.len-i-end.ensures, c.args.table.now.said.ok.0)) c.index.ensures)

pub returns-clause-long : goal.returns-clause-long
returns-clause-long c =
    let said = c.args.table.now.said.items in
    ap length (c.loop-i.invariant ∙ ap (map says_taken) (take_all c.loop-i.i said (omega (arith, c.loop-i-test.false, c.len-i-end.ensures, c.args.table.now.said.ok.0))))
    ∙ length-map said says_taken ∙ c.requires.said

pub returns-clause-marks : goal.returns-clause-marks
returns-clause-marks c = λ r table.
    let said = c.args.table.now.said.items in
    let are = c.loop-i.invariant ∙ ap (map says_taken) (take_all c.loop-i.i said (omega (arith, c.loop-i-test.false, c.len-i-end.ensures, c.args.table.now.said.ok.0))) in
    subst (λ (l : List Bool). IsMarkOf (λ q. takes (r.over.at q)) (row_paths c.args.table.now.rows.items) l) (sym are) (away_marked r c.args.table.now.rows.items said table)
