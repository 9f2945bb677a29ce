use Rattle.std.proofs.Common.{None}
use Rattle.ips_after.specs.Findings as after
use Rattle.ips_after.specs.Request.{WantDir}
use Rattle.ips_verify.proofs.Looked.{no_dir}
use Rattle.ips_verify.proofs.damage.dir_damage.Goals as goal

pub returns-in_default : goal.returns-in_default
returns-in_default c = λ e is. c.not_there.ensures e is (WantDir c.args.mode) (no_dir c.args.found e is c.in_default.not-Dir) (after.damage_if (after.wrong_mode c.args.mode e) after.WrongMode None)
