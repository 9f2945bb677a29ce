use Rattle.std.proofs.Common.{◌∙◌, [], ap}
use Rattle.ips_request.specs.Stems.{stems_of, put_all}
use Rattle.ips_request.proofs.making.with_index.Goals as goal

pub invariant_of-result : goal.invariant_of-result
invariant_of-result c = record { known = c.in_ok-add_texts.ensures ∙ ap (λ ks. put_all (stems_of ks) c.deref.result.now) c.new-index.ensures.empty ∙ ap (put_all []) c.deref.ensures.value }
