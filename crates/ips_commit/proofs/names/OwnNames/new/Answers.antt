use Rattle.ips_steps.specs.Steps.{stage_name}
use Rattle.ips_steps.specs.Private.{records_name, journal_name, gate_name}
use Rattle.ips_rehearse.proofs.Paths.{stage_is_path}
use Rattle.ips_contents.proofs.OwnPaths.{journal_path, gate_path}
use Rattle.ips_commit.proofs.names.OwnNames.new.Goals as goal
use Rattle.ips_text.proofs.Fronts.{records_path}

pub path_of-requires : goal.path_of-requires
path_of-requires c = records_path

pub path_of-requires-2 : goal.path_of-requires-2
path_of-requires-2 c = stage_is_path

pub path_of-requires-3 : goal.path_of-requires-3
path_of-requires-3 c = journal_path

pub path_of-requires-4 : goal.path_of-requires-4
path_of-requires-4 c = gate_path

pub invariant_of-result : goal.invariant_of-result
unfolding records_name stage_name journal_name gate_name
invariant_of-result c = record {
  records_is = c.in_ok-path_of.ensures;
  stage_is = c.in_ok-path_of-2.ensures;
  journal_is = c.in_ok-path_of-3.ensures;
  gate_is = c.in_ok-path_of-4.ensures;
}
