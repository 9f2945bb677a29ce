use Rattle.std.proofs.Common.{◌≡◌, ◌++◌, ◌∙◌, Option, sym, ap}
use Rattle.std.specs.Option.{option_to_list}
use Rattle.std.proofs.lemmas.List.{append-nil}
use Rattle.ips_manifest.specs.declared.package.Package.{Package}
use Rattle.ips_problem.proofs.Packages.{selected_more}
use Rattle.ips_problem.proofs.taking.selected.Goals as goal
use Rattle.ips_problem.proofs.taking.selected.Goals.{in-Some+in_ok-push, in_default}

pub loop-number-preserved : goal.loop-number-preserved
loop-number-preserved c =
    let old = c.loop-number.packages.items in
    let new = c.match-branch-2.packages.items in
    let added : new ≡ old ++ option_to_list c.in_ok-package.field-0 =
    elim c.match-branch-2.branch [
      | in-Some+in_ok-push w ↦ ap (λ v. v.items) w.packages-is ∙ w.in_ok-push.ensures.items ∙ ap (λ (o : Option Package). old ++ option_to_list o) (sym w.in-Some.is)
      | in_default w ↦ ap (λ v. v.items) w.packages-is ∙ sym (append-nil old) ∙ ap (λ (o : Option Package). old ++ option_to_list o) (sym w.in_default.is)
    ] in
    selected_more c.args.stems.now c.args.rows.now c.args.chosen.now c.loop-number.number c.index-stems-number.result c.index-rows-number.result c.as_str.result.now old new c.in_ok-package.field-0
    c.requires.rows c.requires.chosen c.loop-number-test.true c.index-stems-number.is c.index-rows-number.is c.as_str.ensures.value c.in_ok-package.ensures c.loop-number.invariant added
