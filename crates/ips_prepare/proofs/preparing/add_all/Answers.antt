use Rattle.std.proofs.Common.{◌≡◌, ◌++◌, List, length, subst, arith}
use Rattle.std.proofs.lemmas.List.{nil_from_length}
use Rattle.ips_filling.specs.declared.filled.Filled.{Filled}
use Rattle.ips_prepare.proofs.Entries.{lines_in, lines_more, contents_more, parts_more, all_yielded, all_stand}
use Rattle.ips_prepare.proofs.preparing.add_all.Goals as goal

pub loop-one-preserved : goal.loop-one-preserved
loop-one-preserved c =
    let f : Filled = c.in-Some.one in
    let step = (rw c.in-Some.is at c.next.ensures.steps).0 in
    record {
      lines = lines_more _ _ _ c.loop-one.yielded f c.loop-one.invariant.lines c.in_ok-add.ensures.lines;
      contents = contents_more _ _ _ c.loop-one.yielded f c.loop-one.invariant.contents c.in_ok-add.ensures.contents;
      parts = parts_more c.loop-one.yielded f c.next.new.self.rest.items _ c.args.filled.items c.loop-one.invariant.parts step;
    }

pub returns-clause-stand : goal.returns-clause-stand
returns-clause-stand c =
    let none : length c.loop-one.one-iterator.rest.items ≡ 0 = omega (arith, (rw c.in-None.is at c.next.ensures.steps).0, c.loop-one.one-iterator.rest.ok) in
    let whole = all_yielded c.loop-one.yielded c.loop-one.one-iterator.rest.items c.args.filled.items c.loop-one.invariant.parts (nil_from_length c.loop-one.one-iterator.rest.items none) in
    all_stand c.args.prepared.now.manifest.lines.items c.loop-one.prepared.manifest.lines.items c.args.filled.items
    (subst (λ (l : List Filled). c.loop-one.prepared.manifest.lines.items ≡ c.args.prepared.now.manifest.lines.items ++ lines_in l) whole c.loop-one.invariant.lines) c.requires.stand c.requires.entries
