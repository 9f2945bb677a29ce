use Rattle.std.proofs.Common.{refl}
use Rattle.ips_digest.specs.Name.{spelling}
use Rattle.ips_digest.proofs.Names.{read_only}
use Rattle.ips_digest.proofs.name.reads_back.Goals as goal

pub returns : goal.returns
returns c = λ name h read found. read_only (spelling name) read found name h refl
