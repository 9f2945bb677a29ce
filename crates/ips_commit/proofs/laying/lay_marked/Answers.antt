use Rattle.std.proofs.Common.{ℕ, ◌+◌, min, Bool, Ok, sym, ◌∙◌, ap, arith}
use Rattle.ips_outside.proofs.Reading.{no_fault}
use Rattle.ips_journal.specs.declared.fault.StepFault.TheVariants.{FolderFault}
use Rattle.ips_commit.proofs.Going.{going_start, going_way, going_at, going_takers, turn_fails, turn_ends, turn_goes, too_many}
use Rattle.ips_commit.proofs.laying.lay_marked.Goals as goal

pub loop-turn-init : goal.loop-turn-init
loop-turn-init g c = record {
  going = going_start g.F.Source.outside g.met.F.Source.sane c.args.first c.args.folder.now c.args.reader.now _ c.requires.open;
  path = c.requires.path;
}

pub lay_thousand-requires-clause-takers : goal.lay_thousand-requires-clause-takers
lay_thousand-requires-clause-takers g c = going_takers g.F.Source.outside g.met.F.Source.sane c.args.first c.loop-turn.turn c.args.folder.now c.loop-turn.folder c.args.reader.now c.loop-turn.reader _ _ c.loop-turn.invariant.going c.requires.takers

pub lay_thousand-requires-clause-way : goal.lay_thousand-requires-clause-way
lay_thousand-requires-clause-way g c = λ told_now.
    let told = sym c.loop-turn.invariant.going.same_kind ∙ told_now in
    going_way g.F.Source.outside g.met.F.Source.sane c.args.first c.loop-turn.turn c.args.folder.now c.loop-turn.folder c.args.reader.now c.loop-turn.reader _ _ c.loop-turn.invariant.going told (c.requires.way told) (c.requires.at told)

pub lay_thousand-requires-clause-at : goal.lay_thousand-requires-clause-at
lay_thousand-requires-clause-at g c = λ told_now.
    let told = sym c.loop-turn.invariant.going.same_kind ∙ told_now in
    going_at g.F.Source.outside g.met.F.Source.sane c.args.first c.loop-turn.turn c.args.folder.now c.loop-turn.folder c.args.reader.now c.loop-turn.reader _ _ c.loop-turn.invariant.going told (c.requires.way told) (c.requires.at told)

pub returns-in-Err-clause-lays : goal.returns-in-Err-clause-lays
returns-in-Err-clause-lays g c =
    turn_fails g.F.Source.outside g.met.F.Source.sane c.args.first c.loop-turn.turn c.args.folder.now c.loop-turn.folder c.args.reader.now c.loop-turn.reader _ _ c.loop-turn.invariant.going
    c.lay_thousand.new.folder c.lay_thousand.new.reader _ c.lay_thousand.ensures.same_kind c.lay_thousand.result _ c.in-Err.is c.lay_thousand.ensures.lays

pub returns-then-laid-clause-lays : goal.returns-then-laid-clause-lays
returns-then-laid-clause-lays g c =
    turn_ends g.F.Source.outside g.met.F.Source.sane c.args.first c.loop-turn.turn c.args.folder.now c.loop-turn.folder c.args.reader.now c.loop-turn.reader _ _ c.loop-turn.invariant.going
    c.lay_thousand.new.folder c.lay_thousand.new.reader _ c.lay_thousand.ensures.same_kind c.lay_thousand.result c.in-Ok.laid.0 c.saturating_add-count.result (c.in-Ok.is ∙ ap (λ (b : Bool). Ok (c.in-Ok.laid.0, b)) c.if-laid.true) c.lay_thousand.ensures.lays
    (c.saturating_add-count.ensures ∙ ap (λ (n : ℕ). min (n + c.in-Ok.laid.0) 18446744073709551615) c.saturating_mul.ensures)

pub loop-turn-preserved : goal.loop-turn-preserved
loop-turn-preserved g c = record {
  going = turn_goes g.F.Source.outside g.met.F.Source.sane c.args.first c.loop-turn.turn c.args.folder.now c.loop-turn.folder c.args.reader.now c.loop-turn.reader _ _ c.loop-turn.invariant.going
      c.lay_thousand.new.folder c.lay_thousand.new.reader _ c.lay_thousand.ensures.same_kind c.lay_thousand.result c.in-Ok.laid.0 (c.in-Ok.is ∙ ap (λ (b : Bool). Ok (c.in-Ok.laid.0, b)) c.if-laid.false) c.lay_thousand.ensures.lays
      (c.in-Ok.ensures.open c.if-laid.false) (c.lay_thousand.ensures.cause.steady (no_fault c.lay_thousand.result _ FolderFault c.in-Ok.is)) c.lay_thousand.ensures.changes;
  path = c.lay_thousand.ensures.path;
}

pub returns-clause-lays : goal.returns-clause-lays
returns-clause-lays g c =
    too_many g.F.Source.outside g.met.F.Source.sane c.args.first c.loop-turn.turn c.args.folder.now c.loop-turn.folder c.args.reader.now c.loop-turn.reader _ _ c.loop-turn.invariant.going c.line.result (omega arith)
