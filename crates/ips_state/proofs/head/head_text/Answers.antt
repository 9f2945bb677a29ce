use Rattle.std.proofs.Common.{◌≡◌, ◌++◌, List, ℕ, refl, ◌∙◌}
use Rattle.ips_state.specs.State.{recorded, head_of}
use Rattle.ips_state.proofs.HeadTexts.{head_parts, parts_are_head, variants_text, facets_text}
use Rattle.ips_state.proofs.head.head_text.Goals as goal

pub returns : goal.returns
returns c =
    let h = head_of (recorded c.args.state.now) in
    let variants = variants_text c.in_ok-variants.variants.items h.settings.variants c.in_ok-variants.ensures.each in
    let facets = facets_text c.in_ok-facets.facets.items h.settings.facets c.in_ok-facets.ensures.each in
    let written : c.push_facets.new.out.items ≡ head_parts h =
    rw (c.in_ok-push_facets.ensures, c.deref-3.ensures.value, facets, c.in_ok-push_variants.ensures, c.deref-2.ensures.value, variants, c.in_ok-push_actuator.ensures, c.in_ok-push_origins.ensures, c.deref.ensures.value, c.in_ok-push_publisher.ensures, c.in_ok-push_format.ensures, c.new-out.ensures.items) refl in
    written ∙ parts_are_head h
