use Rattle.std.proofs.Common.{◌++◌, ◌∷◌, [], List, take_all, sym, ◌∙◌, ap, arith}
use Rattle.ips_text.proofs.Lists.{take_item}
use Rattle.ips_found.specs.Found.{thing_paths}
use Rattle.ips_aside.specs.declared.lost.Lost.{Lost}
use Rattle.ips_aside.specs.Lost.{folder_paths}
use Rattle.ips_aside.proofs.FirstFree.{free_none, marks_above, marked_none, seen_none}
use Rattle.ips_aside.proofs.finding.name_each.Goals as goal

pub loop-i-init : goal.loop-i-init
loop-i-init c =
    let before = folder_paths c.args.root.now.bytes (thing_paths c.args.things.now) in
    record {
      seen = seen_none c.args.names.now.items c.requires.none;
      marked = marked_none c.args.taken.now before c.args.names.now.items c.requires.none c.requires.marked;
      free = free_none c.args.root.now.bytes before c.args.names.now.items c.requires.none;
    }

pub name_one-requires : goal.name_one-requires
name_one-requires c = marks_above c.loop-i.taken _ c.loop-i.invariant.marked

pub loop-i-preserved : goal.loop-i-preserved
loop-i-preserved c =
    let before = folder_paths c.args.root.now.bytes (thing_paths c.args.things.now) in
    let lost = c.args.lost.now in
    let i = c.loop-i.i in
    record {
      seen = c.in_ok-name_one.ensures.seen ∙ ap (λ (l : List Lost). l ++ c.index-lost-i.result ∷ []) c.loop-i.invariant.seen ∙ sym (take_item lost i c.index-lost-i.result c.loop-i-test.true c.index-lost-i.is);
      marked = c.in_ok-name_one.ensures.marked before c.loop-i.invariant.marked;
      free = c.in_ok-name_one.ensures.free before c.loop-i.invariant.marked c.loop-i.invariant.free;
    }

pub returns-clause-just : goal.returns-clause-just
returns-clause-just c = c.loop-i.invariant.seen ∙ take_all c.loop-i.i c.args.lost.now (omega (arith, c.loop-i-test.false))
