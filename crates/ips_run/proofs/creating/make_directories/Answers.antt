use Rattle.ips_text.proofs.Fronts.{records_path}
use Rattle.ips_steps.specs.Private.{records_name}
use Rattle.ips_history.specs.Directories.{var_name}
use Rattle.ips_run.proofs.Directories.{var_path}
use Rattle.ips_run.proofs.Created.{unmade_as}
use Rattle.ips_run.proofs.creating.make_directories.Goals as goal

pub directory_path-requires : goal.directory_path-requires
directory_path-requires g c = var_path

pub directory_path-requires-2 : goal.directory_path-requires-2
directory_path-requires-2 g c = records_path

pub make_in-requires-clause-var : goal.make_in-requires-clause-var
unfolding var_name
make_in-requires-clause-var g c = c.in-Ok-Ok.ensures

pub make_in-requires-clause-records : goal.make_in-requires-clause-records
unfolding records_name
make_in-requires-clause-records g c = c.in-Ok-Ok.ensures'

pub returns-in-Err-clause-unmade : goal.returns-in-Err-clause-unmade
unfolding var_name records_name
returns-in-Err-clause-unmade g c = λ told. unmade_as g.F.Source.outside c.args.folder.now c.make_in.new.folder c.in-Err.fault _ _ c.ended.result c.ended.ensures c.in-Ok-Ok.ensures c.in-Ok-Ok.ensures' (c.in-Err.ensures.unmade told)
