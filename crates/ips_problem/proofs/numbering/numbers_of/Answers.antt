use Rattle.std.proofs.Common.{◌≡◌, ◌∷◌, ◌∙◌, ℕ, List, Option, ap, bytes_eq, map, position}
use Rattle.ips_fmri.specs.declared.fmri.Fmri.{Fmri}
use Rattle.ips_depend.specs.Dependency.{mentions}
use Rattle.ips_request.specs.Stems.{stems_of}
use Rattle.ips_problem.specs.declared.rows.Numbers.{Numbers}
use Rattle.ips_problem.specs.Posed.{greatest_of, number_of, stems_of_test}
use Rattle.ips_problem.specs.Seen.{numbers_mentioned, puzzle_of, seen_numbers, seen_test}
use Rattle.ips_problem.proofs.Numbers.{mapped_more, present, present_mapped}
use Rattle.ips_problem.proofs.numbering.numbers_of.Goals as goal

pub loop-test-preserved : goal.loop-test-preserved
loop-test-preserved c =
    let p = puzzle_of c.args.stems.now.keys c.args.rows.now in
    let tests = c.args.tests.now in
    let i = c.loop-test.test-index in
    let test = c.test-item.result in
    let old = c.loop-test.all.items in
    let new = c.push.new.self.items in
    let added : Numbers = record { mentioned = c.in_ok-mentioned.mentioned; last = c.greatest-last.result } in
    let same : seen_numbers added ≡ numbers_mentioned p (seen_test test) =
    c.in_ok-mentioned.ensures ∙ ap (map (λ (f : Fmri). position (bytes_eq f.stem) (stems_of c.args.stems.now.keys))) c.mentions.ensures in
    let last : added.last ≡ greatest_of (stems_of_test p (seen_test test)) =
    c.greatest-last.ensures ∙ ap (λ (os : List (Option ℕ)). greatest_of (test.stem ∷ present os)) (c.deref.ensures.value ∙ same)
    ∙ ap (λ (is : List ℕ). greatest_of (test.stem ∷ is)) (present_mapped (λ (f : Fmri). number_of p f.stem) (mentions test.test)) in (
      mapped_more (λ n. numbers_mentioned p (seen_test n)) seen_numbers tests i test old new added c.loop-test-test.true c.test-item.is c.loop-test.invariant.0 c.in_ok-push.ensures.items same,
      mapped_more (λ n. greatest_of (stems_of_test p (seen_test n))) (λ (m : Numbers). m.last) tests i test old new added c.loop-test-test.true c.test-item.is c.loop-test.invariant.1 c.in_ok-push.ensures.items last,
    )
