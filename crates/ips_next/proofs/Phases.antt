-- From the answers of phases to what they mean.
use Rattle.std.proofs.Common.{inr}
use Rattle.ips_outside.specs.Image.{Image}
use Rattle.ips_state.specs.State.{Recorded}
use Rattle.ips_request.specs.declared.fault.ProblemFault.{ProblemFault}
use Rattle.ips_request.specs.declared.fault.ProblemFault.TheVariants as problem
use Rattle.ips_words.specs.declared.what.What.{What}
use Rattle.ips_asked.specs.Requested.{kind_asked}
use Rattle.ips_next.specs.Decided.{IsUnposed, IsUndecided, MayCome, unposed}

-- a fault of a command that poses no puzzle, which may come of it
pub unposed_undecided : (w : What) (old asked : Recorded) (held : Image) (why : ProblemFault) → IsUnposed w old asked held why → MayCome (kind_asked w) (unposed why) → IsUndecided w old asked held (unposed why)
unposed_undecided w old asked held (problem.NoMatch pattern) is may = is
unposed_undecided w old asked held (problem.Ambiguous pattern stems) is may = is
unposed_undecided w old asked held (problem.ManifestMissing fmri) is may = is
unposed_undecided w old asked held (problem.BadManifest fmri fault) is may = is
unposed_undecided w old asked held (problem.BadDepend fmri line) is may = is
unposed_undecided w old asked held (problem.TooLarge which count) is may = inr is
unposed_undecided w old asked held problem.SourceFault is may = may
