use Rattle.std.proofs.Common.{◌++◌, [], length, refl, sym, ◌∙◌, ap}
use Rattle.std.proofs.lemmas.Result.{on_ok_weaker}
use Rattle.std.proofs.lemmas.List.{length-map}
use Rattle.ips_change.specs.survey.Marks.{row_paths}
use Rattle.ips_image_steps.specs.draft.Drafting.{provenances_in, turns_saving}
use Rattle.ips_emit.specs.Emitted.{provenance_of, staged_bytes}
use Rattle.ips_image_steps.proofs.Asked.{settled_targets}
use Rattle.ips_image_steps.proofs.Staged.{none_copied}
use Rattle.ips_image_steps.proofs.found.add_all.Goals as goal

pub draw-requires-clause-targets : goal.draw-requires-clause-targets
draw-requires-clause-targets g c = settled_targets c.args.table.now.rows.items c.args.table.now.said.items c.args.settled.now c.requires.request c.requires.whole

pub returns : goal.returns
returns g c = on_ok_weaker c.draw.result (λ drawn r t a asked found root.
    let table = c.args.table.now in
    let settled = c.args.settled.now in
    let laid = g.L.Laying.laid c.args.laying.now in
    let saved = c.in_ok-add_saved.ensures r t a [] [] asked.good found.bare root found.under found.found found.are found.ways_are found.short (c.requires.none r.bytes t) in
    let plan = drawn r t (turns_saving r t a saved.asides) saved.more asked.good asked.table asked.accounts asked.lays found.settles saved.steps in
    let rest = provenances_in laid (row_paths table.rows.items) table.said.items settled.changes.items settled.emptied.items plan.places in
    record {
      asides = saved.asides;
      are_asides = saved.are;
      provenances = saved.more ++ rest;
      steps = plan.steps;
      sources = record {
        saved = saved.more;
        laid = rest;
        are = refl;
        counted = ap length (sym saved.steps.provenances_are) ∙ length-map c.add_saved.new.emitted.staged.items provenance_of ∙ sym (length-map c.add_saved.new.emitted.staged.items (staged_bytes r.bytes t)) ∙ ap length saved.steps.staged;
        copied = saved.sources;
        uncopied = none_copied laid (row_paths table.rows.items) table.said.items settled.changes.items settled.emptied.items plan.places;
      };
    }) c.draw.ensures
