use Rattle.std.proofs.Common.{◌≡◌, map, take}
use Rattle.ips_fmri.specs.declared.fmri.Fmri.{Fmri}
use Rattle.ips_request.specs.Stems.{stems_of, put_all}
use Rattle.ips_request.proofs.stems.add_fmris.Given as goal

abbrev pub invariant-loop-fmri : goal.invariant-loop-fmri
invariant-loop-fmri l = stems_of l.stems.keys ≡ put_all (stems_of l.initial.stems.keys) (map (λ (f : Fmri). f.stem) (take l.fmri-index l.fmris))
