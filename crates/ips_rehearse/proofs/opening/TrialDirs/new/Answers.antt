use Rattle.std.proofs.Common.{sym, ◌∙◌, subst}
use Rattle.ips_text.specs.Path.{IsPath}
use Rattle.ips_steps.specs.Steps.{stage_name}
use Rattle.ips_rehearse.specs.Tried.{try_name, inner_dir_name}
use Rattle.ips_rehearse.proofs.Paths.{dir_is, dir_path, inner_dir_path, stage_is_path, try_path}
use Rattle.ips_rehearse.proofs.opening.TrialDirs.new.Goals as goal

pub path_at-requires : goal.path_at-requires
path_at-requires c = stage_is_path

pub path_at-requires-2 : goal.path_at-requires-2
path_at-requires-2 c = try_path

pub path_at-requires-3 : goal.path_at-requires-3
path_at-requires-3 c = subst IsPath (dir_is ∙ sym c.tried_dir.ensures) dir_path

pub path_at-requires-4 : goal.path_at-requires-4
path_at-requires-4 c = inner_dir_path

pub invariant_of-result : goal.invariant_of-result
unfolding stage_name try_name inner_dir_name
invariant_of-result c = record {
  stage_is = c.in_ok-path_at.ensures;
  trials_is = c.in_ok-path_at-2.ensures;
  tried_is = c.in_ok-path_at-3.ensures ∙ c.tried_dir.ensures;
  inner_is = c.in_ok-path_at-4.ensures;
}
