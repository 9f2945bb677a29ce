use Rattle.std.proofs.Common.{◌∙◌, ap, map}
use Rattle.ips_fmri.specs.declared.fmri.Fmri.{Fmri}
use Rattle.ips_request.specs.Stems.{stems_of, put_all}
use Rattle.ips_request.proofs.Lookups.{firsts_once}
use Rattle.ips_request.proofs.making.freeze_index.Goals as goal

pub returns : goal.returns
returns c =
    let stems = map (λ (f : Fmri). f.stem) c.args.freezes.now in
    c.in_ok-add_fmris.ensures ∙ ap (λ ks. put_all (stems_of ks) stems) c.new-stems.ensures.empty ∙ firsts_once stems c.requires
