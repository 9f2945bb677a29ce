use Rattle.std.proofs.Common.{ℕ, List, ap, ◌∙◌}
use Rattle.ips_text.specs.Ancestry.{covers}
use Rattle.ips_outside.specs.State.{nowhere}
use Rattle.ips_outside.proofs.Moments.{written_changed, placed_within}
use Rattle.ips_folder.specs.declared.call.Call.TheVariants as call
use Rattle.ips_folder.specs.History.{link_made}
use Rattle.ips_folder.specs.Memory.{moment}
use Rattle.ips_folder.proofs.Answered.{refused, starves, writes, does}
use Rattle.ips_folder.proofs.memory.calls.MemFolderFolder.make_link.Goals as goal

pub returns-in-Ok-Ok-clause-writes : goal.returns-in-Ok-Ok-clause-writes
returns-in-Ok-Ok-clause-writes c =
    let m = moment c.args.self.now in
    let p = c.args.path.now.bytes in
    let is = ap (λ (x : List ℕ). link_made x c.in-Ok-Ok.target.items m) c.in-Ok-Ok.ensures.same ∙ ap (λ (b : List ℕ). link_made p b m) c.in-Ok-Ok.ensures'.items in
    writes c.args.self.now c.act.new.self c.act.result _ (call.MakeLink c.in-Ok-Ok.path c.in-Ok-Ok.target) is (covers p) nowhere (written_changed p _ m.state (placed_within p _ m.state.held)) c.act.ensures

pub returns-in-Ok-Ok-clause-does : goal.returns-in-Ok-Ok-clause-does
returns-in-Ok-Ok-clause-does c =
    let m = moment c.args.self.now in
    let p = c.args.path.now.bytes in
    let is = ap (λ (x : List ℕ). link_made x c.in-Ok-Ok.target.items m) c.in-Ok-Ok.ensures.same ∙ ap (λ (b : List ℕ). link_made p b m) c.in-Ok-Ok.ensures'.items in
    does c.args.self.now c.act.new.self c.act.result _ (call.MakeLink c.in-Ok-Ok.path c.in-Ok-Ok.target) is c.act.ensures

pub returns-in_default-clause-writes : goal.returns-in_default-clause-writes
returns-in_default-clause-writes c =
    let m = moment c.args.self.now in
    let p = c.args.path.now.bytes in
    refused c.args.self.now c.starve.new.self c.starve.result _ (covers p) nowhere c.starve.ensures

pub returns-in_default-clause-does : goal.returns-in_default-clause-does
returns-in_default-clause-does c = starves c.args.self.now c.starve.new.self c.starve.result _ c.starve.ensures
