use Rattle.std.proofs.Common.{sym, ap, ◌∙◌, Option, List, ℕ}
use Rattle.std.specs.String.{string_bytes}
use Rattle.std.specs.Option.{option_map, unwrap_or}
use Rattle.std.specs.Prelude.{codes}
use Rattle.ips_filter.proofs.Views.{seen_at}
use Rattle.ips_filter.proofs.settings.Settings.variant.Goals as goal

-- what the map has at the name is what is set there
pub returns-in-Some : goal.returns-in-Some
returns-in-Some c =
    rw (← c.self.view_is) (c.as_str.ensures.value ∙ sym (ap (λ (o : Option (List ℕ)). unwrap_or o (codes "false")) (seen_at (λ v. string_bytes v) c.args.name.now c.self.inside.variants.entries ∙ ap (option_map (λ v. string_bytes v)) (sym c.in-Some.ensures.value))))

pub returns-in-None : goal.returns-in-None
returns-in-None c =
    rw (← c.self.view_is) (sym (ap (λ (o : Option (List ℕ)). unwrap_or o (codes "false")) (seen_at (λ v. string_bytes v) c.args.name.now c.self.inside.variants.entries ∙ ap (option_map (λ v. string_bytes v)) (sym c.in-None.ensures.value))))
