use Rattle.std.proofs.Common.{rules, ◌≡◌, Bool, true, false, if◌then◌else◌, is_err, ap, ◌∙◌, refl}
use Rattle.ips_folder.specs.declared.call.Call.TheVariants as call
use Rattle.ips_folder.specs.History.{begun}
use Rattle.ips_folder.specs.Memory.{moment, must_fail}
use Rattle.ips_folder.proofs.Answered.{same_log, syncs, syncs_not, does}
use Rattle.ips_folder.proofs.memory.calls.MemFolderFolder.sync.Goals as goal

pub returns-then-must_fail-clause-syncs : goal.returns-then-must_fail-clause-syncs
returns-then-must_fail-clause-syncs c =
    let bad : is_err c.answer_change.result ≡ true = search rules in
    syncs_not c.args.self.now c.answer_change.new.self c.answer_change.result bad (same_log c.answer_change.ensures.log) c.answer_change.ensures.counted c.answer_change.ensures.changes

pub returns-clause-syncs : goal.returns-clause-syncs
returns-clause-syncs c =
    let served : must_fail c.args.self.now ≡ false = search rules in
    syncs c.args.self.now c.settle.new.self c.settle.result served c.settle.ensures

pub returns-clause-does : goal.returns-clause-does
returns-clause-does c =
    let m = moment c.args.self.now in
    let served : false ≡ must_fail c.args.self.now = search rules in
    let is = ap (λ (b : Bool). if b then m else begun m.state.held) served in
    does c.args.self.now c.settle.new.self c.settle.result _ call.Sync is c.settle.ensures
