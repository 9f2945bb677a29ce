use Rattle.std.proofs.Common.{◌+◌, sym, ◌∙◌, arith}
use Rattle.ips_commit.proofs.Marked.{can_mark}
use Rattle.ips_commit.proofs.Turned.{turn_stopped, turn_unsynced, turn_ended, turn_unmarked, turn_marked, turn_way}
use Rattle.ips_commit.proofs.laying.lay_thousand.Goals as goal

pub returns-in-Err-clause-lays : goal.returns-in-Err-clause-lays
returns-in-Err-clause-lays g c =
    turn_stopped g.F.Source.outside g.met.F.Source.sane c.args.marks c.args.folder.now c.apply_block.new.folder c.args.reader.now c.apply_block.new.reader _ _ c.apply_block.result _ c.in-Err.is c.apply_block.ensures.applied

pub returns-in_default-clause-lays : goal.returns-in_default-clause-lays
returns-in_default-clause-lays g c =
    turn_unsynced g.F.Source.outside g.met.F.Source.sane c.args.marks c.args.folder.now c.apply_block.new.folder c.args.reader.now c.apply_block.new.reader _ _ c.in-Ok.laid.0 c.in-Ok.laid.1 c.apply_block.result c.in-Ok.is c.apply_block.ensures.applied c.apply_block.ensures.same_kind
    c.sync.new.self c.sync.result c.sync.ensures c.in_default.ensures.kept

pub returns-then-laid-clause-lays : goal.returns-then-laid-clause-lays
returns-then-laid-clause-lays g c =
    turn_ended g.F.Source.outside g.met.F.Source.sane c.args.marks c.args.folder.now c.apply_block.new.folder c.args.reader.now c.apply_block.new.reader _ _ c.in-Ok.laid.0 c.in-Ok.laid.1 c.apply_block.result c.in-Ok.is c.apply_block.ensures.applied c.apply_block.ensures.same_kind
    c.sync.new.self c.sync.result c.sync.ensures (λ told. c.in-Ok-sync.ensures.done told) c.if-laid.true

pub make_mark-requires-clause-can : goal.make_mark-requires-clause-can
make_mark-requires-clause-can g c = λ told_now.
    let o = g.F.Source.outside in
    let told_1 = sym c.sync.ensures.call.same_kind ∙ told_now in
    let told = sym c.apply_block.ensures.same_kind ∙ told_1 in
    let at = c.requires.at told in
    let way = turn_way o g.met.F.Source.sane c.args.marks c.args.folder.now c.apply_block.new.folder c.args.reader.now c.apply_block.new.reader _ _ c.in-Ok.laid.0 c.in-Ok.laid.1 c.apply_block.result c.in-Ok.is c.apply_block.ensures.applied c.apply_block.ensures.same_kind
    c.sync.new.self c.sync.result c.sync.ensures (λ told. c.in-Ok-sync.ensures.done told) told (c.requires.way told) at.0 at.1 in
    can_mark (o.state c.sync.new.self).held (g.met.F.Source.sane.formed c.sync.new.self told_now) way.gate c.args.marks (c.args.marks + 1) way.others (omega arith) (omega (arith, c.requires.few))

pub returns-in_default-make_mark-clause-lays : goal.returns-in_default-make_mark-clause-lays
returns-in_default-make_mark-clause-lays g c =
    turn_unmarked g.F.Source.outside g.met.F.Source.sane c.args.marks c.args.folder.now c.apply_block.new.folder c.args.reader.now c.apply_block.new.reader _ _ c.in-Ok.laid.0 c.in-Ok.laid.1 c.apply_block.result c.in-Ok.is c.apply_block.ensures.applied c.apply_block.ensures.same_kind
    c.sync.new.self c.sync.result c.sync.ensures (λ told. c.in-Ok-sync.ensures.done told) c.if-laid.false (omega (arith, c.requires.few))
    c.make_mark.new.folder (λ told. c.make_mark.ensures.any_moment told) (c.sync.ensures.call.same_kind ∙ c.apply_block.ensures.same_kind)

pub returns-clause-lays : goal.returns-clause-lays
returns-clause-lays g c =
    turn_marked g.F.Source.outside g.met.F.Source.sane c.args.marks c.args.folder.now c.apply_block.new.folder c.args.reader.now c.apply_block.new.reader _ _ c.in-Ok.laid.0 c.in-Ok.laid.1 c.apply_block.result c.in-Ok.is c.apply_block.ensures.applied c.apply_block.ensures.same_kind
    c.sync.new.self c.sync.result c.sync.ensures (λ told. c.in-Ok-sync.ensures.done told) c.if-laid.false (omega (arith, c.requires.few))
    c.make_mark.new.folder (λ told. c.make_mark.ensures.any_moment told) (c.sync.ensures.call.same_kind ∙ c.apply_block.ensures.same_kind)
    (λ told. c.in-Ok-make_mark.ensures.made told) (λ told. c.in-Ok-make_mark.ensures.safe told)
