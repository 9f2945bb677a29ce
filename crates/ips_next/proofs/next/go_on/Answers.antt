use Rattle.std.proofs.Common.{sym, ◌∙◌}
use Rattle.std.proofs.lemmas.Bool.{true≢false}
use Rattle.std.proofs.lemmas.Result.{err_from_is_err_and}
use Rattle.ips_outside.proofs.Reading.{reads_as}
use Rattle.ips_state.specs.State.{recorded}
use Rattle.ips_next.proofs.Recorded.{line_added}
use Rattle.ips_next.proofs.next.go_on.Goals as goal

pub returns-in_err-settle : goal.returns-in_err-settle
returns-in_err-settle g c =
    let left = err_from_is_err_and c.from_residual.result c.from_residual.ensures.1 in
    let settled = c.in_err-settle.ensures in
    rw (left.1, left.2) (record { lawful = tt; next = λ told. tt; refused = λ told. settled.refused told c.args.command.now.history c.args.moment; early = settled.early; reads = settled.reads })

pub returns-then-branch : goal.returns-then-branch
returns-then-branch g c = record {
  lawful = tt;
  next = λ told. tt;
  refused = λ told.
      let settled = c.in_ok-settle.ensures.settled told c.args.command.now.history c.args.moment in
      record { asked = settled.0; settled = recorded c.settle.new.next; is_settled = settled.1; unchanged = c.in_ok-is_unchanged.ensures.0 c.if-branch.true };
  early = tt;
  reads = reads_as g.S.Source.outside c.args.source.now c.settle.new.source _ _ c.in_ok-settle.ensures.reads (λ failed. cc) (λ failed. cc);
}

pub returns : goal.returns
returns g c =
    let s = recorded c.settle.new.next in record {
      lawful = let lawful = c.in_ok-settle.ensures.lawful in line_added s c.add_line.new.history.items lawful (c.in_ok-add_line.ensures.lawful c.requires.can.words lawful.history);
      next = λ told.
          let settled = c.in_ok-settle.ensures.settled told c.args.command.now.history c.args.moment in
          let line = c.in_ok-add_line.ensures.line in
          record {
            asked = settled.0;
            settled = s;
            is_settled = settled.1;
            changed = λ same. true≢false (sym (c.in_ok-is_unchanged.ensures.1 same) ∙ c.if-branch.false);
            line = line.0;
            is_line = line.1;
            is = λ i. record {
              format = s.format;
              publisher = s.publisher;
              origins = s.origins;
              actuator = s.actuator;
              settings = s.settings;
              installed = s.installed;
              avoid = s.avoid;
              freeze = s.freeze;
              mediators = s.mediators;
              history = line.2 i;
              index = s.index;
            };
          };
      refused = λ told. tt;
      early = tt;
      reads = reads_as g.S.Source.outside c.args.source.now c.settle.new.source _ _ c.in_ok-settle.ensures.reads (λ failed. cc) (λ failed. cc);
    }
