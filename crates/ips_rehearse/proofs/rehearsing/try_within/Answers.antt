use Rattle.std.proofs.Common.{◌∙◌, ⊎_elim, inl, inr, IsTrue}
use Rattle.ips_outside.proofs.Trees.{on_ok_to}
use Rattle.ips_outside.specs.Image.{is_file}
use Rattle.ips_rehearse.specs.Rehearsed.{HasTried, HasTriedModes}
use Rattle.ips_rehearse.proofs.Passing.{modes_within, named_within, pass_none, pass_then, stood_within}
use Rattle.ips_text.specs.Ancestry.{is_below}
use Rattle.ips_folder.proofs.Runs.{keeps_then}
use Rattle.ips_rehearse.specs.Tried.{try_name, in_try, IsLinkTo, Passed}
use Rattle.ips_rehearse.proofs.rehearsing.try_within.Goals as goal

pub returns-in_err-try_name-clause-any_moment : goal.returns-in_err-try_name-clause-any_moment
returns-in_err-try_name-clause-any_moment g c = λ told.
    let o = g.F.Source.outside in
    let told_1 = c.try_name_of.ensures.calls.same_kind ∙ told in
    let told_2 = c.try_target.ensures.calls.same_kind ∙ told_1 in
    keeps_then o (is_below try_name) (is_below try_name) c.args.folder.now c.try_target.new.folder c.try_name.new.folder
    (keeps_then o (is_below try_name) (is_below try_name) c.args.folder.now c.try_name_of.new.folder c.try_target.new.folder (c.try_name_of.ensures.any_moment told) (c.try_target.ensures.any_moment told_1))
    (c.try_name.ensures.any_moment told_2)

pub returns-clause-any_moment : goal.returns-clause-any_moment
returns-clause-any_moment g c = λ told.
    let o = g.F.Source.outside in
    let told_1 = c.try_name_of.ensures.calls.same_kind ∙ told in
    let told_2 = c.try_target.ensures.calls.same_kind ∙ told_1 in
    keeps_then o (is_below try_name) (is_below try_name) c.args.folder.now c.try_name.new.folder c.try_modes.new.folder
    (keeps_then o (is_below try_name) (is_below try_name) c.args.folder.now c.try_target.new.folder c.try_name.new.folder
    (keeps_then o (is_below try_name) (is_below try_name) c.args.folder.now c.try_name_of.new.folder c.try_target.new.folder (c.try_name_of.ensures.any_moment told) (c.try_target.ensures.any_moment told_1))
    (c.try_name.ensures.any_moment told_2))
    (c.try_modes.ensures.any_moment (c.try_name.ensures.calls.same_kind ∙ told_2))

pub returns-clause-seen : goal.returns-clause-seen
returns-clause-seen g c = λ told.
    let o = g.F.Source.outside in
    let f0 = c.args.folder.now in
    let f1 = c.try_name_of.new.folder in
    let f2 = c.try_target.new.folder in
    let f3 = c.try_name.new.folder in
    let f4 = c.try_modes.new.folder in
    let steps = c.args.steps.now in
    let modes = c.args.modes.now in
    let told_1 = c.try_name_of.ensures.calls.same_kind ∙ told in
    let told_2 = c.try_target.ensures.calls.same_kind ∙ told_1 in
    let told_3 = c.try_name.ensures.calls.same_kind ∙ told_2 in
    let one = c.in-Ok.ensures.seen told in
    let two = c.in-Ok-try_target.ensures.seen told_1 in
    let three = c.in_ok-try_name.ensures.seen told_2 in
    on_ok_to c.try_modes.result (Passed o f0 f4 × HasTried o steps c.args.contents f0 f4 × HasTriedModes o f0 f4 modes.worked.has modes.dirs.has modes.files.has)
    (λ four.
    let to_2 = pass_then o f0 f1 f2 one.0 two.0 in
    let to_3 = pass_then o f0 f2 f3 to_2 three.0 in
    let from_3 = four.0 in
    let from_2 = pass_then o f2 f3 f4 three.0 from_3 in
    let from_1 = pass_then o f1 f2 f4 two.0 from_2 in (
      pass_then o f0 f3 f4 to_3 from_3,
      record {
        name_of = λ some. named_within o c.args.contents f0 f0 f1 f4 (pass_none o f0) from_1 (one.1 (c.makes_name.ensures ∙ some));
        target = c.longest_target.result.now;
        longest_target = c.longest_target.ensures;
        linked = ⊎_elim (λ none. inl none) (λ s. inr (stood_within o f0 f1 f2 f4 (IsLinkTo c.longest_target.result.now) one.0 from_2 s)) two.1;
        name = c.longest_name.result.now;
        longest_name = c.longest_name.ensures.longest;
        named = ⊎_elim (λ none. inl none) (λ s. inr (stood_within o f0 f2 f3 f4 (λ t. IsTrue (is_file (t.look (in_try c.longest_name.result.now)))) to_2 from_3 s)) three.1;
      },
      modes_within o f0 f3 f4 f4 modes.worked.has modes.dirs.has modes.files.has to_3 (pass_none o f4) four.1,
    ))
    (c.try_modes.ensures.seen told_3)
