use Rattle.std.proofs.Common.{◌⊎◌, inl, rules}
use Rattle.ips_folder.proofs.Answered.{not_late}
use Rattle.ips_folder.proofs.memory.MemFolder.settle.Goals as goal

pub returns-in-Ok : goal.returns-in-Ok
returns-in-Ok c =
    let before = not_late c.args.self.now c.requires in
    search rules
