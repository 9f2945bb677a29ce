use Rattle.std.proofs.Common.{◌∙◌, ap}
use Rattle.ips_request.specs.Stems.{has, stems_of, put_all}
use Rattle.ips_request.proofs.Lookups.{has_once}
use Rattle.ips_asked.proofs.removing.index_of.Goals as goal

pub returns : goal.returns
returns c = λ stem.
    ap (has stem) (c.in_ok-add_texts.ensures ∙ ap (λ ks. put_all (stems_of ks) c.args.stems.now) c.new-index.ensures.empty) ∙ has_once stem c.args.stems.now
