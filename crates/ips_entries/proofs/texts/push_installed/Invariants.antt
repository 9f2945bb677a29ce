use Rattle.std.proofs.Common.{◌≡◌, ◌++◌, take}
use Rattle.std.specs.List.{flat_map}
use Rattle.ips_fmri.specs.Fmri.{fmri_text}
use Rattle.ips_records.specs.Lines.{ended}
use Rattle.ips_state.specs.State.{installed}
use Rattle.ips_state.specs.Text.{versioned_stem}
use Rattle.ips_entries.proofs.texts.push_installed.Given as goal

abbrev pub invariant-loop-package : goal.invariant-loop-package
invariant-loop-package l = l.out.items ≡ l.fn.out.items ++ flat_map (λ p. ended (fmri_text (versioned_stem (installed p)))) (take l.package-index l.packages)
