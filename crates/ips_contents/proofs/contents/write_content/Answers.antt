use Rattle.std.proofs.Common.{refl, sym, ◌∙◌, ap, arith}
use Rattle.std.proofs.lemmas.Grind.{common_steps}
use Rattle.ips_text.specs.Ancestry.{covers}
use Rattle.ips_outside.specs.State.{State, nowhere}
use Rattle.ips_folder.proofs.Runs.{keeps_then, keeps_wider}
use Rattle.ips_contents.proofs.AllWritten.{folder_said}
use Rattle.ips_contents.proofs.Written.{alone_mode, alone_moded, moded_there}
use Rattle.ips_contents.proofs.contents.write_content.Goals as goal

pub set_mode-requires-clause-can : goal.set_mode-requires-clause-can
set_mode-requires-clause-can g c = λ told_now.
    let made = c.in-Ok.ensures.written (sym c.make_content.ensures.writes.same_kind ∙ told_now) in
    alone_mode c.args.path.now.bytes 384 made.0 (g.F.Source.outside.state c.make_content.new.folder).held made.1

pub returns-in-Err-clause-writes : goal.returns-in-Err-clause-writes
returns-in-Err-clause-writes g c =
    let p = c.args.path.now.bytes in
    let writes = c.in-Err.ensures.writes in record {
      any_moment = λ told. keeps_wider g.F.Source.outside (covers p) nowhere (covers p) (covers p) c.args.folder.now c.make_content.new.folder (λ q off. off) (λ q off. refl) (writes.any_moment told);
      reads = writes.reads;
      cause = writes.cause;
      same_kind = writes.same_kind;
      changes = writes.changes;
    }

pub returns-in_default-clause-refused : goal.returns-in_default-clause-refused
returns-in_default-clause-refused g c = folder_said (g.S.Source.outside.tells c.args.source.now) (g.S.Source.outside.state c.args.source.now).held c.args.publisher.now c.args.content.now

pub returns-in_default-clause-writes : goal.returns-in_default-clause-writes
returns-in_default-clause-writes g c =
    let o = g.F.Source.outside in
    let p = c.args.path.now.bytes in
    let old = c.args.folder.now in
    let mid = c.make_content.new.folder in
    let new = c.set_mode.new.self in
    let writes = c.make_content.ensures.writes in record {
      any_moment = λ told.
          let made = c.in-Ok.ensures.written told in
          keeps_then o (covers p) (covers p) old mid new (keeps_wider o (covers p) nowhere (covers p) (covers p) old mid (λ q off. off) (λ q off. refl) (writes.any_moment told))
          (moded_there o g.met.F.Source.sane p 384 made.0 mid new _ c.set_mode.result made.1 (writes.same_kind ∙ told) c.set_mode.ensures);
      reads = grind (arith, common_steps);
      cause = grind (arith, common_steps);
      same_kind = c.set_mode.ensures.call.same_kind ∙ writes.same_kind;
      changes = omega (arith, writes.changes, c.set_mode.ensures.one_made.later);
    }

pub returns-clause-written : goal.returns-clause-written
returns-clause-written g c = λ told.
    let o = g.F.Source.outside in
    let made = c.in-Ok.ensures.written told in (
      made.0,
      alone_moded c.args.path.now.bytes 384 c.args.mode made.0 (o.state c.make_content.new.folder).held (o.state c.set_mode.new.self).held made.1
          (ap (λ (s : State). s.held) (c.in-Ok-set_mode.ensures.done (c.make_content.ensures.writes.same_kind ∙ told))),
      made.2,
    )

pub returns-clause-writes : goal.returns-clause-writes
returns-clause-writes g c =
    let o = g.F.Source.outside in
    let p = c.args.path.now.bytes in
    let old = c.args.folder.now in
    let mid = c.make_content.new.folder in
    let new = c.set_mode.new.self in
    let writes = c.make_content.ensures.writes in record {
      any_moment = λ told.
          let made = c.in-Ok.ensures.written told in
          keeps_then o (covers p) (covers p) old mid new (keeps_wider o (covers p) nowhere (covers p) (covers p) old mid (λ q off. off) (λ q off. refl) (writes.any_moment told))
          (moded_there o g.met.F.Source.sane p 384 made.0 mid new _ c.set_mode.result made.1 (writes.same_kind ∙ told) c.set_mode.ensures);
      reads = grind (arith, common_steps);
      cause = grind (arith, common_steps);
      same_kind = c.set_mode.ensures.call.same_kind ∙ writes.same_kind;
      changes = omega (arith, writes.changes, c.set_mode.ensures.one_made.later);
    }
