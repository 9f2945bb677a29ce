use Rattle.std.proofs.Common.{◌∙◌, List, ℕ, sym, ap, rules}
use Rattle.std.specs.Prelude.{codes}
use Rattle.std.proofs.lemmas.Bool.{true≢false}
use Rattle.ips_action.specs.Attrs.{is_same}
use Rattle.ips_action.proofs.KeyOrder.{same_true}
use Rattle.ips_rules.specs.Seen.{seen_term}
use Rattle.ips_rules.proofs.Left.{asked_on, asked_end, asked_no_word, asked_none}
use Rattle.ips_rules.proofs.selecting.selectors.Goals as goal

pub returns-then-eq-clause-some : goal.returns-then-eq-clause-some
returns-then-eq-clause-some c =
    asked_end c.args.text.now c.loop-term.rest.now c.loop-term.list.items (seen_term c.in-Some.term) c.in-Some.after.now c.loop-term.invariant.1 c.in-Some.ensures.some
    (sym c.in_ok-word.ensures ∙ sym c.as_str.ensures ∙ same_true _ (codes "->") (sym c.eq.ensures ∙ c.if-eq.true))

pub returns-in_default-2-clause-none : goal.returns-in_default-2-clause-none
returns-in_default-2-clause-none c =
    let none = rw c.in_default-2.is at c.in_ok-selector.ensures.none in
    asked_none c.args.text.now c.loop-term.rest.now c.loop-term.list.items (seen_term c.in-Some.term) c.in-Some.after.now c.loop-term.invariant.1 c.in-Some.ensures.some
    (λ e. true≢false (ap (λ (w : List ℕ). is_same w (codes "->")) (sym (c.as_str.ensures ∙ c.in_ok-word.ensures ∙ e)) ∙ sym c.eq.ensures ∙ c.if-eq.false))
    (λ s is same. none s is (same ∙ sym (c.as_str-in-Some.ensures ∙ c.in_ok-word.ensures)))

pub loop-term-preserved : goal.loop-term-preserved
loop-term-preserved c =
    let some = rw c.in-Some-2.is at c.in_ok-selector.ensures.some in (
      search rules,
      rw (c.in_ok-push.ensures.items)
          (asked_on c.args.text.now c.loop-term.rest.now c.loop-term.list.items (seen_term c.in-Some.term) c.in-Some.after.now c.in-Some-2.selector c.loop-term.invariant.1 c.in-Some.ensures.some
          (some.0 ∙ c.as_str-in-Some.ensures ∙ c.in_ok-word.ensures) some.1),
    )

pub returns-clause-none : goal.returns-clause-none
returns-clause-none c = asked_no_word c.args.text.now c.loop-term.rest.now c.loop-term.list.items c.loop-term.invariant.1 c.in_default.ensures.none
