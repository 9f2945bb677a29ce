use Rattle.std.proofs.Common.{◌≡◌, ◌<◌, ◌≤◌, ◌↔◌, ◌++◌, List, ℕ, Contains, Global, Result, Ok, Err, IfOk, Vec, flat_map, get_or, length, refl, ap, subst, ◌∙◌}
use Rattle.std.proofs.lemmas.List.{take_all}
use Rattle.ips_problem.specs.declared.rows.Numbered.{Numbered}
use Rattle.ips_problem.specs.declared.rows.Row.{Row}
use Rattle.ips_state.specs.State.{Ascend}
use Rattle.ips_problem.specs.Avoided.{AreAvoided, missed_by}
use Rattle.ips_problem.specs.Held.{posed_of}
use Rattle.ips_problem.specs.Seen.{puzzle_of, seen_test}
use Rattle.ips_request.proofs.Results.{ok_then}
use Rattle.ips_problem.proofs.Recording.{avoided_stems}
use Rattle.ips_problem.proofs.Missing.{avoided, gathered_more}
use Rattle.ips_problem.proofs.problem.Problem.avoid.Goals as goal

pub loop-test-preserved : goal.loop-test-preserved
loop-test-preserved c =
    let p = c.args.self.now in
    let choice = c.args.chosen.now in
    let i = c.loop-test.test-index in
    let test = c.test-item.result in
    let old = c.loop-test.stems.items in
    let tests = c.deref-test-items.ensures.value in
    let rows = c.deref-in-loop-test.ensures.value in
    let within : i < length p.tests.items = subst (λ (l : List Numbered). i < length l) tests c.loop-test-test.true in
    let at : test ≡ get_or p.tests.items i test = c.test-item.is ∙ ap (λ (l : List Numbered). get_or l i test) tests in
    let added = c.in_ok-add_missed.ensures ∙ ap (λ (l : List Row). old ++ missed_by (puzzle_of p.stems.keys l) choice (seen_test test)) rows in
    gathered_more (λ (t : Numbered). missed_by (puzzle_of p.stems.keys p.rows.items) choice (seen_test t)) p.avoid.items p.tests.items i test old c.add_missed.new.missed.items within at c.loop-test.invariant added

if_both : {X E : Type 0} (P Q R : X → Type 0) → ((x : X) → P x → Q x → R x) → (r : Result X E) → IfOk r P → IfOk r Q → IfOk r R
if_both P Q R w (Ok x) p q = w x p q
if_both P Q R w (Err e) p q = tt

pub returns : goal.returns
returns c =
    let p = c.args.self.now in
    let choice = c.args.chosen.now in
    let i = c.loop-test.test-index in
    let before = c.loop-test.stems.items in
    let missed = λ (t : Numbered). missed_by (puzzle_of p.stems.keys p.rows.items) choice (seen_test t) in
    let past : length p.tests.items ≤ i = subst (λ (l : List Numbered). length l ≤ i) c.deref-test-items.ensures.value c.loop-test-test.false in
    let all = c.loop-test.invariant ∙ ap (λ (l : List Numbered). p.avoid.items ++ flat_map missed l) (take_all i p.tests.items past) in
    let are =
    if_both (λ (v : Vec (List ℕ) Global). Ascend v.items) (λ (v : Vec (List ℕ) Global). (stem : List ℕ) → Contains v.items stem ↔ Contains before stem)
    (λ (v : Vec (List ℕ) Global). AreAvoided (posed_of p) choice v.items)
    (λ v order same. avoided (posed_of p) choice seen_test p.tests.items before v.items refl all order same)
    c.in_order.result c.in_order.ensures.order c.in_order.ensures.each in
    record {
      avoided = are;
      lawful = ok_then (λ (v : Vec (List ℕ) Global). AreAvoided (posed_of p) choice v.items) _ c.in_order.result are (λ v avoided sound. avoided_stems (posed_of p) v.items choice sound avoided);
    }
