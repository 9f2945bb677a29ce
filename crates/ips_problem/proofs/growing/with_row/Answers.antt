use Rattle.std.proofs.Common.{◌≡◌, ℕ, ◌++◌, ◌∷◌, [], ◌<◌, ◌^◌, ◌∙◌, List, ap, arith, flat_map, length, map, vec_len}
use Rattle.std.proofs.lemmas.List.{length_push}
use Rattle.std.proofs.lemmas.List.Elements.{All-push, All-same}
use Rattle.ips_problem.specs.declared.rows.Row as declared
use Rattle.ips_problem.specs.Gathered.{asked_at, tests_asked}
use Rattle.ips_problem.specs.Reach.{stems_wanted}
use Rattle.ips_problem.specs.Seen.{seen_test}
use Rattle.ips_problem.proofs.Growth.{known_more, within_more}
use Rattle.ips_problem.proofs.growing.with_row.Goals as goal

pub invariant_of-result-clause-tests_known : goal.invariant_of-result-clause-tests_known
invariant_of-result-clause-tests_known c =
    let gathered = c.args.gathered in
    let reads = c.args.row.reads.items in
    let os = c.args.row.candidates.items in
    let one = ap (λ (rs : List declared.Row). length rs) c.in_ok-push.ensures.items ∙ length_push gathered.rows.items c.args.row in
    let turn : c.len-turn.result ≡ length gathered.rows.items = omega (arith, c.len-turn.ensures, gathered.rows.ok.0) in
    let asked = c.in_ok-add_row.ensures.tests ∙ ap (λ (n : ℕ). map seen_test gathered.tests.items ++ tests_asked n 0 reads os) turn in
    known_more (length gathered.rows.items) (length c.push.new.self.items) reads os gathered.tests.items c.add_row.new.tests.items one gathered.tests_known asked

pub invariant_of-result-clause-few_candidates : goal.invariant_of-result-clause-few_candidates
invariant_of-result-clause-few_candidates c =
    let gathered = c.args.gathered in
    let few = λ (r : declared.Row). vec_len r.candidates < 2 ^ 32 in
    All-same few c.push.new.self.items (gathered.rows.items ++ c.args.row ∷ []) c.in_ok-push.ensures.items (All-push few gathered.rows.items c.args.row gathered.few_candidates c.requires.few_candidates)

pub invariant_of-result-clause-within : goal.invariant_of-result-clause-within
invariant_of-result-clause-within c =
    let gathered = c.args.gathered in
    let row = c.args.row in
    let one = ap (λ (rs : List declared.Row). length rs) c.in_ok-push.ensures.items ∙ length_push gathered.rows.items row in
    let below = c.requires.within in
    within_more gathered.stems.keys c.add_row.new.stems.keys (flat_map (λ o. stems_wanted (asked_at row.reads.items o)) row.candidates.items) (length c.push.new.self.items) c.in_ok-add_row.ensures.stems (omega arith)
