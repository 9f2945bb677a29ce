use Rattle.std.proofs.Common.{ap, ◌∙◌}
use Rattle.ips_folder.specs.Crash.{without, touches}
use Rattle.ips_folder.specs.Memory.{moment_of}
use Rattle.ips_folder.proofs.Crashes.{gone_since}
use Rattle.ips_folder.proofs.log.CallLog.gone.Goals as goal

pub returns : goal.returns
returns c =
    let m = moment_of c.args.self.now in
    let e = c.since_sync.ensures in
    c.remove_names.ensures ∙ ap (without (touches c.since_sync.result.now)) c.in_ok-tree.ensures ∙ gone_since c.since_sync.result.now m.safe m e.changes e.now
