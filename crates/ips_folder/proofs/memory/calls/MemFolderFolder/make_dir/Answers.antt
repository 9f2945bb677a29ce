use Rattle.std.proofs.Common.{ℕ, List, ap}
use Rattle.ips_text.specs.Ancestry.{covers}
use Rattle.ips_outside.specs.State.{nowhere}
use Rattle.ips_outside.proofs.Moments.{written_changed, placed_within}
use Rattle.ips_folder.specs.declared.call.Call.TheVariants as call
use Rattle.ips_folder.specs.History.{dir_made}
use Rattle.ips_folder.specs.Memory.{moment}
use Rattle.ips_folder.proofs.Answered.{refused, starves, writes, does}
use Rattle.ips_folder.proofs.memory.calls.MemFolderFolder.make_dir.Goals as goal

pub returns-in-Ok-clause-writes : goal.returns-in-Ok-clause-writes
returns-in-Ok-clause-writes c =
    let m = moment c.args.self.now in
    let p = c.args.path.now.bytes in
    let is = ap (λ (x : List ℕ). dir_made x c.args.mode m) c.in-Ok.ensures.same in
    writes c.args.self.now c.act.new.self c.act.result _ (call.MakeDir c.in-Ok.path c.args.mode) is (covers p) nowhere (written_changed p _ m.state (placed_within p _ m.state.held)) c.act.ensures

pub returns-in-Ok-clause-does : goal.returns-in-Ok-clause-does
returns-in-Ok-clause-does c =
    let m = moment c.args.self.now in
    let p = c.args.path.now.bytes in
    let is = ap (λ (x : List ℕ). dir_made x c.args.mode m) c.in-Ok.ensures.same in
    does c.args.self.now c.act.new.self c.act.result _ (call.MakeDir c.in-Ok.path c.args.mode) is c.act.ensures

pub returns-in-Err-clause-writes : goal.returns-in-Err-clause-writes
returns-in-Err-clause-writes c =
    let m = moment c.args.self.now in
    let p = c.args.path.now.bytes in
    refused c.args.self.now c.starve.new.self c.starve.result _ (covers p) nowhere c.starve.ensures

pub returns-in-Err-clause-does : goal.returns-in-Err-clause-does
returns-in-Err-clause-does c = starves c.args.self.now c.starve.new.self c.starve.result _ c.starve.ensures
