use Rattle.std.proofs.Common.{◌≡◌, map, take, position, bytes_eq}
use Rattle.ips_fmri.specs.declared.fmri.Fmri.{Fmri}
use Rattle.ips_request.specs.Stems.{stems_of}
use Rattle.ips_problem.proofs.numbering.numbers_in.Given as goal

abbrev pub invariant-loop-fmri : goal.invariant-loop-fmri
invariant-loop-fmri l = l.all.items ≡ map (λ (f : Fmri). position (bytes_eq f.stem) (stems_of l.stems.keys)) (take l.fmri-index l.mentions)
