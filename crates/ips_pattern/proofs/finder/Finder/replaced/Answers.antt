use Rattle.std.proofs.Common.{◌∙◌, ap, sym, subst, List, ℕ, string_bytes}
use Rattle.regex.proofs.ReplaceLemmas.{IfOk-weaker}
use Rattle.regex.specs.Strings.{matcher_pattern, matcher_names, IsWrittenBy}
use Rattle.ips_pattern.specs.Pattern.{replaced}
use Rattle.ips_pattern.specs.Serving.{IsTemplate}
use Rattle.ips_pattern.proofs.Served.{replaced_served, template_known}
use Rattle.ips_pattern.proofs.finder.Finder.replaced.Goals as goal

pub returns-clause-value : goal.returns-clause-value
returns-clause-value c = λ replacement is.
    let text = c.self.inside.text.now in
    let m = c.self.inside.matcher in
    let hay = c.args.value.now in
    let known : IsTemplate text replacement c.args.template.now = subst (λ (t : List ℕ). IsTemplate t replacement c.args.template.now) (sym c.self.view_is) is in
    IfOk-weaker (λ out. IsWrittenBy c.args.template.now hay _ (string_bytes out)) _
    (λ out written. replaced_served text replacement (matcher_pattern m) (matcher_names m) hay (string_bytes out) c.self.invariant (λ k. (c.type_inv.value k).fits)
    (λ found e. written.read found.1 replacement (template_known text replacement c.args.template.now found e known))
    ∙ ap (λ (t : List ℕ). replaced (record { pattern = t; template = replacement }) hay) c.self.view_is)
    _ c.replace_all.ensures.written
