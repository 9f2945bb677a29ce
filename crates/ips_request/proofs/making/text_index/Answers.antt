use Rattle.std.proofs.Common.{◌∙◌, ap}
use Rattle.ips_request.specs.Stems.{stems_of, put_all}
use Rattle.ips_request.proofs.Lookups.{firsts_once}
use Rattle.ips_request.proofs.making.text_index.Goals as goal

pub returns : goal.returns
returns c = c.in_ok-add_texts.ensures ∙ ap (λ ks. put_all (stems_of ks) c.args.texts.now) c.new-stems.ensures.empty ∙ firsts_once c.args.texts.now c.requires
