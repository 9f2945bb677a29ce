use Rattle.std.proofs.Common.{◌≡◌, ◌++◌, take}
use Rattle.std.specs.List.{flat_map}
use Rattle.ips_fmri.specs.Fmri.{fmri_text}
use Rattle.ips_records.specs.Lines.{ended}
use Rattle.ips_state.proofs.printing.push_names.Given as goal

abbrev pub invariant-loop-name : goal.invariant-loop-name
invariant-loop-name l = l.out.items ≡ l.fn.out.items ++ flat_map (λ f. ended (fmri_text f)) (take l.name-index l.names)
