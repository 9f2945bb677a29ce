use Rattle.std.proofs.Common.{ℕ, List, ap}
use Rattle.ips_outside.specs.Change.{names}
use Rattle.ips_outside.specs.State.{nowhere}
use Rattle.ips_outside.proofs.Moments.{mode_set_changed}
use Rattle.ips_folder.specs.declared.call.Call.TheVariants as call
use Rattle.ips_folder.specs.History.{mode_given}
use Rattle.ips_folder.specs.Memory.{moment}
use Rattle.ips_folder.proofs.Answered.{refused, starves, writes, does}
use Rattle.ips_folder.proofs.memory.calls.MemFolderFolder.set_mode.Goals as goal

pub returns-in-Ok-clause-writes : goal.returns-in-Ok-clause-writes
returns-in-Ok-clause-writes c =
    let m = moment c.args.self.now in
    let p = c.args.path.now.bytes in
    let is = ap (λ (x : List ℕ). mode_given c.args.mode x m) c.in-Ok.ensures.same in
    writes c.args.self.now c.act.new.self c.act.result _ (call.SetMode c.in-Ok.path c.args.mode) is nowhere (names m.state.held p) (mode_set_changed c.args.mode p m.state) c.act.ensures

pub returns-in-Ok-clause-does : goal.returns-in-Ok-clause-does
returns-in-Ok-clause-does c =
    let m = moment c.args.self.now in
    let p = c.args.path.now.bytes in
    let is = ap (λ (x : List ℕ). mode_given c.args.mode x m) c.in-Ok.ensures.same in
    does c.args.self.now c.act.new.self c.act.result _ (call.SetMode c.in-Ok.path c.args.mode) is c.act.ensures

pub returns-in-Err-clause-writes : goal.returns-in-Err-clause-writes
returns-in-Err-clause-writes c =
    let m = moment c.args.self.now in
    let p = c.args.path.now.bytes in
    refused c.args.self.now c.starve.new.self c.starve.result _ nowhere (names m.state.held p) c.starve.ensures

pub returns-in-Err-clause-does : goal.returns-in-Err-clause-does
returns-in-Err-clause-does c = starves c.args.self.now c.starve.new.self c.starve.result _ c.starve.ensures
