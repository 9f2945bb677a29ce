use Rattle.std.proofs.Common.{◌++◌, [], length, sym, ◌∙◌, ap}
use Rattle.std.proofs.lemmas.List.{append_assoc, length-map}
use Rattle.std.proofs.lemmas.Result.{on_ok_weaker}
use Rattle.std.specs.Option.{option_map}
use Rattle.ips_after.specs.Repaired.{request_of}
use Rattle.ips_after.proofs.Mended.{is_request}
use Rattle.ips_image_steps.specs.draft.Drafting.{turns_saving}
use Rattle.ips_emit.specs.Emitted.{provenance_of, staged_bytes}
use Rattle.ips_mend.specs.mended.Drafting.{sources_in}
use Rattle.ips_repair.specs.Drawing.{history_sources}
use Rattle.ips_repair.proofs.Steps.{laid_uncopied}
use Rattle.ips_repair.proofs.drawing.add_all.Goals as goal

pub returns : goal.returns
returns c = on_ok_weaker c.add_history.result (λ added f t a good want_is told bare root under found are ways short.
    let r = request_of f t in
    let put = option_map (λ text. text.items) c.args.put in
    let saved = c.in_ok-add_saved.ensures r t a [] [] (is_request f t good) bare root under found are ways short (c.requires.none f.bytes t) in
    let wanted = c.in_ok-add_wanted.ensures f t (turns_saving r t a saved.asides) saved.more good want_is told saved.steps in
    let laid = sources_in c.args.changes.now wanted.0 in
    record {
      asides = saved.asides;
      are_asides = saved.are;
      sources = (saved.more ++ laid) ++ history_sources put;
      steps = added f.bytes t _ (saved.more ++ laid) wanted.1;
      come = record {
        saved = saved.more;
        laid = laid ++ history_sources put;
        are = append_assoc saved.more laid (history_sources put);
        counted = ap length (sym saved.steps.provenances_are) ∙ length-map c.add_saved.new.emitted.staged.items provenance_of ∙ sym (length-map c.add_saved.new.emitted.staged.items (staged_bytes f.bytes t)) ∙ ap length saved.steps.staged;
        copied = saved.sources;
        uncopied = laid_uncopied c.args.changes.now wanted.0 put;
      };
    }) c.add_history.ensures
