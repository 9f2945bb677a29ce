use Rattle.std.proofs.Common.{◌≡◌, false, List, ℕ, ◌∷◌, [], Some, sym, ◌∙◌, ap, subst}
use Rattle.ips_text.specs.Ancestry.{covers}
use Rattle.ips_outside.specs.Image.{File}
use Rattle.ips_outside.specs.State.{State, nowhere}
use Rattle.ips_folder.specs.Calls.{IsSole}
use Rattle.ips_folder.proofs.Runs.{keeps_then, one_sync}
use Rattle.ips_steps.specs.Private.{gate_name}
use Rattle.ips_folder.proofs.Filled.{sole_placed}
use Rattle.ips_contents.proofs.Wrote.{wrote, wrote_then}
use Rattle.ips_contents.proofs.Written.{alone_filled}
use Rattle.ips_commit.proofs.GateOpens.{on_err, not_begun, not_written, not_now, not_synced, never, opens, not_behind}
use Rattle.ips_commit.proofs.gate.open.Goals as goal

at_gate : (p : List ℕ) → p ≡ gate_name → (q : List ℕ) → covers gate_name q ≡ false → covers p q ≡ false
at_gate p at q off = ap (λ (x : List ℕ). covers x q) at ∙ off

pub append-requires : goal.append-requires
append-requires g c = λ told_now.
    let told = sym c.make_file.ensures.call.same_kind ∙ told_now in
    subst (λ (s : State). IsSole s.held c.args.names.now.gate.bytes) (sym (c.in_ok-make_file.ensures.done told)) (sole_placed c.args.names.now.gate.bytes 384 [] (g.F.Source.outside.state c.args.folder.now).held)

pub returns-in_err-append-clause-any_moment : goal.returns-in_err-append-clause-any_moment
returns-in_err-append-clause-any_moment g c = λ told.
    let p = c.args.names.now.gate.bytes in
    let off = at_gate p c.args.names.now.gate_is in
    wrote_then g.F.Source.outside g.met.F.Source.sane (covers gate_name) p off c.args.folder.now c.make_file.new.self c.append.new.self _ c.append.result
    (wrote g.F.Source.outside g.met.F.Source.sane (covers gate_name) p off c.args.folder.now c.make_file.new.self _ c.make_file.result told c.make_file.ensures) (c.make_file.ensures.call.same_kind ∙ told) c.append.ensures

pub returns-in_err-sync-clause-any_moment : goal.returns-in_err-sync-clause-any_moment
returns-in_err-sync-clause-any_moment g c = λ told.
    let p = c.args.names.now.gate.bytes in
    let off = at_gate p c.args.names.now.gate_is in
    let told_1 = c.make_file.ensures.call.same_kind ∙ told in
    keeps_then g.F.Source.outside (covers gate_name) nowhere c.args.folder.now c.append.new.self c.sync.new.self
    (wrote_then g.F.Source.outside g.met.F.Source.sane (covers gate_name) p off c.args.folder.now c.make_file.new.self c.append.new.self _ c.append.result
    (wrote g.F.Source.outside g.met.F.Source.sane (covers gate_name) p off c.args.folder.now c.make_file.new.self _ c.make_file.result told c.make_file.ensures) told_1 c.append.ensures)
    (one_sync g.F.Source.outside g.met.F.Source.sane (covers gate_name) nowhere c.append.new.self c.sync.new.self c.sync.result (c.append.ensures.call.same_kind ∙ told_1) c.sync.ensures)

pub returns-clause-any_moment : goal.returns-clause-any_moment
returns-clause-any_moment g c = λ told.
    let p = c.args.names.now.gate.bytes in
    let off = at_gate p c.args.names.now.gate_is in
    let told_1 = c.make_file.ensures.call.same_kind ∙ told in
    keeps_then g.F.Source.outside (covers gate_name) nowhere c.args.folder.now c.append.new.self c.sync.new.self
    (wrote_then g.F.Source.outside g.met.F.Source.sane (covers gate_name) p off c.args.folder.now c.make_file.new.self c.append.new.self _ c.append.result
    (wrote g.F.Source.outside g.met.F.Source.sane (covers gate_name) p off c.args.folder.now c.make_file.new.self _ c.make_file.result told c.make_file.ensures) told_1 c.append.ensures)
    (one_sync g.F.Source.outside g.met.F.Source.sane (covers gate_name) nowhere c.append.new.self c.sync.new.self c.sync.result (c.append.ensures.call.same_kind ∙ told_1) c.sync.ensures)

pub returns-in_err-make_file-clause-not_yet : goal.returns-in_err-make_file-clause-not_yet
returns-in_err-make_file-clause-not_yet g c = λ told.
    let o = g.F.Source.outside in
    let sane = g.met.F.Source.sane in
    let first = not_begun o sane c.args.folder.now (c.requires told).absent in
    on_err c.from_residual.result _ (never o sane c.args.folder.now c.make_file.new.self
    (not_written o sane c.args.names.now.gate.bytes c.args.names.now.gate_is c.args.folder.now c.args.folder.now c.make_file.new.self _ c.make_file.result first (not_behind o sane c.args.folder.now first) told c.make_file.ensures))

pub returns-in_err-append-clause-not_yet : goal.returns-in_err-append-clause-not_yet
returns-in_err-append-clause-not_yet g c = λ told.
    let o = g.F.Source.outside in
    let sane = g.met.F.Source.sane in
    let p = c.args.names.now.gate.bytes in
    let at = c.args.names.now.gate_is in
    let told_1 = c.make_file.ensures.call.same_kind ∙ told in
    let first = not_begun o sane c.args.folder.now (c.requires told).absent in
    let here = not_behind o sane c.args.folder.now first in
    let made = not_written o sane p at c.args.folder.now c.args.folder.now c.make_file.new.self _ c.make_file.result first here told c.make_file.ensures in
    let here_1 = not_now o sane p at c.args.folder.now c.args.folder.now c.make_file.new.self _ c.make_file.result here told c.make_file.ensures in
    on_err c.from_residual-in_err-append.result _ (never o sane c.args.folder.now c.append.new.self
    (not_written o sane p at c.args.folder.now c.make_file.new.self c.append.new.self _ c.append.result made here_1 told_1 c.append.ensures))

pub returns-in_err-sync-clause-not_yet : goal.returns-in_err-sync-clause-not_yet
returns-in_err-sync-clause-not_yet g c = λ told.
    let o = g.F.Source.outside in
    let sane = g.met.F.Source.sane in
    let p = c.args.names.now.gate.bytes in
    let at = c.args.names.now.gate_is in
    let told_1 = c.make_file.ensures.call.same_kind ∙ told in
    let first = not_begun o sane c.args.folder.now (c.requires told).absent in
    let here = not_behind o sane c.args.folder.now first in
    let made = not_written o sane p at c.args.folder.now c.args.folder.now c.make_file.new.self _ c.make_file.result first here told c.make_file.ensures in
    let here_1 = not_now o sane p at c.args.folder.now c.args.folder.now c.make_file.new.self _ c.make_file.result here told c.make_file.ensures in
    let filled = not_written o sane p at c.args.folder.now c.make_file.new.self c.append.new.self _ c.append.result made here_1 told_1 c.append.ensures in
    let here_2 = not_now o sane p at c.args.folder.now c.make_file.new.self c.append.new.self _ c.append.result here_1 told_1 c.append.ensures in
    on_err c.from_residual-in_err-sync.result _ (never o sane c.args.folder.now c.sync.new.self
    (not_synced o sane c.args.folder.now c.append.new.self c.sync.new.self filled here_2 c.sync.ensures.call.time c.in_err-sync.ensures.kept))

pub returns-clause-opened : goal.returns-clause-opened
returns-clause-opened g c = λ told.
    let o = g.F.Source.outside in
    let sane = g.met.F.Source.sane in
    let p = c.args.names.now.gate.bytes in
    let at = c.args.names.now.gate_is in
    let told_1 = c.make_file.ensures.call.same_kind ∙ told in
    let told_2 = c.append.ensures.call.same_kind ∙ told_1 in
    let first = not_begun o sane c.args.folder.now (c.requires told).absent in
    let here = not_behind o sane c.args.folder.now first in
    let made = not_written o sane p at c.args.folder.now c.args.folder.now c.make_file.new.self _ c.make_file.result first here told c.make_file.ensures in
    let here_1 = not_now o sane p at c.args.folder.now c.args.folder.now c.make_file.new.self _ c.make_file.result here told c.make_file.ensures in
    let filled = not_written o sane p at c.args.folder.now c.make_file.new.self c.append.new.self _ c.append.result made here_1 told_1 c.append.ensures in
    let stands : (o.state c.append.new.self).held.look gate_name ≡ Some (File 384 (49 ∷ [])) = subst (λ (q : List ℕ). (o.state c.append.new.self).held.look q ≡ Some (File 384 (49 ∷ []))) at
    (alone_filled p (49 ∷ []) (o.state c.args.folder.now).held (o.state c.make_file.new.self).held (o.state c.append.new.self).held
    (ap (λ (s : State). s.held) (c.in_ok-make_file.ensures.done told)) (ap (λ (s : State). s.held) (c.in_ok-append.ensures.done told_1))).file in
    opens o sane c.args.folder.now c.append.new.self c.sync.new.self filled c.sync.ensures.call.time (c.in_ok-sync.ensures.done told_2) stands
