use Rattle.std.proofs.Common.{◌↔◌, IsTrue, false, true, ◌≡◌, rules}
use Rattle.std.proofs.lemmas.Result.{IfOk-weaker}
use Rattle.ips_records.specs.Form.{AreWords, IsQuotedWord}
use Rattle.ips_records.proofs.RequestForms.{words_cut, words_join, words_one, one_words}
use Rattle.ips_records.proofs.requests.are_words.Goals as goal

pub returns-then-not-branch : goal.returns-then-not-branch
returns-then-not-branch c =
    let rest = c.loop-first.rest.now in (
      λ yes. absurd cc,
      λ h.
          let parts = words_cut rest c.in-Some.first.now c.in-Some.behind.now c.in-Some.ensures.some (c.loop-first.invariant.0 h) in
          let yes : IsTrue c.in_ok-is_word.field-0 = c.in_ok-is_word.ensures.1 parts.0 in
          search rules,
    )

pub loop-first-preserved : goal.loop-first-preserved
loop-first-preserved c =
    let rest = c.loop-first.rest.now in
    let yes : IsTrue c.in_ok-is_word.field-0 = search rules in (
      λ h. (words_cut rest c.in-Some.first.now c.in-Some.behind.now c.in-Some.ensures.some (c.loop-first.invariant.0 h)).1,
      λ t. c.loop-first.invariant.1 (words_join rest c.in-Some.first.now c.in-Some.behind.now c.in-Some.ensures.some (c.in_ok-is_word.ensures.0 yes) t),
    )

pub returns : goal.returns
returns c =
    let rest = c.loop-first.rest.now in
    let none = c.in_default.ensures.none in
    IfOk-weaker c.is_word-2.result _ _ (λ is h. (λ yes. c.loop-first.invariant.1 (one_words rest none (h.0 yes)), λ a. h.1 (words_one rest none (c.loop-first.invariant.0 a)))) c.is_word-2.ensures
