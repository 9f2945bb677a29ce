use Rattle.std.proofs.Common.{◌∙◌, Bool}
use Rattle.std.specs.String.{string_bytes}
use Rattle.ips_filter.proofs.Views.{seen_clone}
use Rattle.ips_filter.proofs.settings.Settings.copy.Goals as goal

-- clones have the same names and values
pub returns : goal.returns
returns c =
    let variants = seen_clone (λ v. string_bytes v) c.self.inside.variants.entries c.in_ok-clone.field-0.entries c.in_ok-clone.ensures.cases in
    let facets = seen_clone (λ (b : Bool). b) c.self.inside.facets.entries c.in_ok-clone-2.field-0.entries c.in_ok-clone-2.ensures.cases in
    (λ i. record { variants = variants i; facets = facets i }) ∙ c.self.view_is
