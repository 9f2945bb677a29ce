use Rattle.std.proofs.Common.{sym, ◌∙◌, rules, string_bytes}
use Rattle.ips_line.proofs.Quotes.{backslash_cut, backslash_next, unescape_on, unescape_end}
use Rattle.ips_line.proofs.values.unescaped.Goals as goal

pub split_at-requires : goal.split_at-requires
split_at-requires c = backslash_cut c.loop-place.rest.now c.in-Some.place (sym c.backslash.ensures ∙ c.in-Some.is)

pub unescaped_first-requires-clause-first : goal.unescaped_first-requires-clause-first
unescaped_first-requires-clause-first c = rw (c.split_at.ensures.back) (backslash_next c.loop-place.rest.now c.in-Some.place (sym c.backslash.ensures ∙ c.in-Some.is))

pub loop-place-preserved : goal.loop-place-preserved
loop-place-preserved c = (
  search rules,
  rw (c.in_ok-push_str-2.ensures.bytes, c.in_ok-push_str.ensures.bytes)
      (unescape_on c.args.quote (string_bytes c.loop-place.value) c.loop-place.rest.now c.in-Some.place c.split_at.result.0.now c.split_at.result.1.now c.unescaped_first.result.0.now c.unescaped_first.result.1.now _ (sym c.backslash.ensures ∙ c.in-Some.is) c.split_at.ensures.front c.split_at.ensures.back c.unescaped_first.ensures.meant c.loop-place.invariant.1),
)

pub returns : goal.returns
returns c = c.from_string.ensures ∙ c.shrink_to_fit.ensures.bytes ∙ c.in_ok-push_str-3.ensures.bytes ∙ unescape_end c.args.quote (string_bytes c.loop-place.value) c.loop-place.rest.now _ (sym c.backslash.ensures ∙ c.in_default.is) c.loop-place.invariant.1
