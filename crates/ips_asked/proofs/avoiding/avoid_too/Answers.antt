use Rattle.std.proofs.Common.{◌∙◌, ◌||◌, ◌&&◌, not, ap, map}
use Rattle.ips_state.specs.State.{installed}
use Rattle.ips_request.specs.Stems.{has}
use Rattle.ips_asked.specs.Asked.{stems_installed}
use Rattle.ips_asked.proofs.Stems.{nothing_put}
use Rattle.ips_asked.proofs.avoiding.avoid_too.Goals as goal

pub returns : goal.returns
returns c = record {
  order = c.in_ok-avoid.ensures.order;
  each = λ x.
      let old = c.args.avoid.now.items in
      let stems = c.args.stems.now in
      ap (has x) c.in_ok-avoid.ensures.stems ∙ c.in_ok-add_each.ensures x ∙ ap (λ l. has x l || has x c.add_absent.new.all.keys) c.deref.ensures.value
      ∙ ap (λ b. has x old || b)
      (c.in_ok-add_absent.ensures x ∙ ap (λ b. (has x stems && not b) || has x c.new-all.result.keys) (c.in_ok-there.ensures x)
      ∙ ap (λ ks. (has x stems && not (has x (stems_installed (map installed c.args.packages.now)))) || has x ks) c.new-all.ensures.empty)
      ∙ nothing_put (has x old) (has x stems && not (has x (stems_installed (map installed c.args.packages.now))));
}
