use Rattle.std.proofs.Common.{◌∙◌, sym, ap}
use Rattle.std.proofs.lemmas.Bool.{true≢false}
use Rattle.ips_mediate.specs.Mediation.{Mediation, mediation_of}
use Rattle.ips_mediate.proofs.Compared.{same_parts, version_tie, text_tie}
use Rattle.ips_mediate.proofs.offer.same_mediation.Goals as goal

pub returns-then-not-is_tie : goal.returns-then-not-is_tie
returns-then-not-is_tie c = (
  λ h. absurd (true≢false (sym h)),
  λ e. absurd (true≢false (sym (c.is_tie.ensures.1 (c.version_order.ensures ∙ (version_tie _ _).1 (c.version.ensures.value ∙ ap (λ (m : Mediation). m.version) e ∙ sym c.version-2.ensures.value))) ∙ c.if-not-is_tie.true)),
)

pub returns : goal.returns
returns c = (
  λ h.
      same_parts (mediation_of c.args.a.now) (mediation_of c.args.b.now)
      (sym c.version.ensures.value ∙ (version_tie _ _).0 (sym c.version_order.ensures ∙ c.is_tie.ensures.0 c.if-not-is_tie.false) ∙ c.version-2.ensures.value)
      (sym c.implementation.ensures ∙ (text_tie _ _).0 (sym c.text_order.ensures ∙ c.is_tie-2.ensures.0 h) ∙ c.implementation-2.ensures),
  λ e. c.is_tie-2.ensures.1 (c.text_order.ensures ∙ (text_tie _ _).1 (c.implementation.ensures ∙ ap (λ (m : Mediation). m.implementation) e ∙ sym c.implementation-2.ensures)),
)
