use Rattle.std.proofs.Common.{sym, ◌∙◌, rules, string_bytes}
use Rattle.ips_line.proofs.Escapes.{escaped_cut, escaped_behind, escape_on, escape_end}
use Rattle.ips_line.proofs.printing.push_escaped.Goals as goal

pub split_at-requires : goal.split_at-requires
split_at-requires c = escaped_cut c.loop-place.rest.now c.in-Some.place (sym c.escaped.ensures ∙ c.in-Some.is)

pub split_at-requires-in-Some : goal.split_at-requires-in-Some
split_at-requires-in-Some c = rw (c.split_at.ensures.back) (escaped_behind c.loop-place.rest.now c.in-Some.place c.loop-place.invariant.0 (sym c.escaped.ensures ∙ c.in-Some.is))

pub loop-place-preserved : goal.loop-place-preserved
loop-place-preserved c = (
  search rules,
  rw (c.in_ok-push_str-3.ensures.bytes, c.in_ok-push_str-2.ensures.bytes, c.in_ok-push_str.ensures.bytes)
      (escape_on (string_bytes c.loop-place.out) c.loop-place.rest.now c.in-Some.place c.split_at.result.0.now c.split_at.result.1.now c.split_at-in-Some.result.0.now c.split_at-in-Some.result.1.now _ (sym c.escaped.ensures ∙ c.in-Some.is) c.split_at.ensures.front c.split_at.ensures.back c.split_at-in-Some.ensures.front c.split_at-in-Some.ensures.back c.loop-place.invariant.1),
)

pub returns : goal.returns
returns c = c.in_ok-push_str-4.ensures.bytes ∙ escape_end (string_bytes c.loop-place.out) c.loop-place.rest.now _ (sym c.escaped.ensures ∙ c.in_default.is) c.loop-place.invariant.1
