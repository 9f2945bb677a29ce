use Rattle.std.proofs.Common.{◌≡◌, ◌∙◌, List, ℕ, true, false, ap, sym}
use Rattle.std.specs.Prelude.{not, ◌==◌}
use Rattle.std.specs.List.{list_all}
use Rattle.ips_transform.specs.Transformed.{ActionParts}
use Rattle.ips_transform.proofs.Yielded.{no_single, some_yields, none_yields}
use Rattle.ips_transform.proofs.results.action_of.Goals as goal

pub returns-then-not-is_single-clause-none : goal.returns-then-not-is_single-clause-none
returns-then-not-is_single-clause-none c =
    let parts : ActionParts = record { number = c.parts.inside.number; kind = c.parts.inside.kind; payload = c.parts.inside.payload; pairs = c.parts.inside.pairs.items } in
    rw (← c.parts.view_is)
    (no_single parts c.in_ok-attrs.attrs c.in_ok-text.text c.in_ok-attrs.ensures.attrs c.in_ok-attrs.ensures.gathers c.in_ok-text.ensures
    (ap (list_all (λ b. not (b == 10))) (sym c.as_str.ensures) ∙ sym c.is_single.ensures ∙ c.if-not-is_single.true))

pub returns-clause-some : goal.returns-clause-some
returns-clause-some c =
    let parts : ActionParts = record { number = c.parts.inside.number; kind = c.parts.inside.kind; payload = c.parts.inside.payload; pairs = c.parts.inside.pairs.items } in
    rw (← c.parts.view_is)
    (some_yields c.read_back.result parts c.in_ok-attrs.attrs c.as_str-2.result.now (rw (← c.parts.view_is) at c.requires) c.in_ok-attrs.ensures.attrs c.in_ok-attrs.ensures.gathers (c.as_str-2.ensures ∙ c.in_ok-text.ensures) c.as_str-2.utf8
    (ap (list_all (λ b. not (b == 10))) (c.as_str-2.ensures ∙ sym c.as_str.ensures) ∙ sym c.is_single.ensures ∙ c.if-not-is_single.false) c.read_back.ensures.some)

pub returns-clause-none : goal.returns-clause-none
returns-clause-none c =
    let parts : ActionParts = record { number = c.parts.inside.number; kind = c.parts.inside.kind; payload = c.parts.inside.payload; pairs = c.parts.inside.pairs.items } in
    rw (← c.parts.view_is)
    (none_yields c.read_back.result parts c.in_ok-attrs.attrs c.as_str-2.result.now c.in_ok-attrs.ensures.attrs c.in_ok-attrs.ensures.gathers (c.as_str-2.ensures ∙ c.in_ok-text.ensures) c.read_back.ensures.none)
