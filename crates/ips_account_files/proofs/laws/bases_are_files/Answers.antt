use Rattle.std.proofs.Common.{◌∙◌}
use Rattle.ips_account_files.proofs.ledger.Bases.{base_is}
use Rattle.ips_account_files.proofs.laws.bases_are_files.Goals as goal

pub returns : goal.returns
returns c = λ a r path default text mode told tells payloads base.
    let of = base.leaves told in
    let read = base_is r.bytes (a.image.look path) a.told a.tells a.publisher a.repository default _ base.left text told tells base.reads payloads of.is in
    (read.0, base.gives ∙ read.1)
