use Rattle.std.proofs.Common.{◌≡◌, ◌+◌, length, sym, ◌∙◌, ap, arith}
use Rattle.ips_listing.specs.Text.{with_version}
use Rattle.ips_prepare.proofs.Sizes.{stems_with, stems_more, versions_more, some_over, none_over}
use Rattle.ips_prepare.proofs.limits.limit_passed.Goals as goal
use Rattle.ips_prepare.proofs.limits.limit_passed.Goals.{then-lists, else-lists, After-first_over}

stems_are : (c : After-first_over) → c.if-lists.stems ≡ length (with_version c.args.stem.now c.args.version.now c.args.catalog.now)
stems_are c =
    let n = length c.args.catalog.now in
    let more = sym (stems_more c.args.stem.now c.args.version.now c.args.catalog.now c.requires.offered.ordered.stems) in
    elim c.if-lists.branch [
      | then-lists w ↦ w.stems-is ∙ w.stems-stems.ensures.number ∙ ap (λ b. stems_with b n) (sym w.if-lists.true ∙ c.lists.ensures) ∙ more
      | else-lists w ↦ w.stems-is ∙ ap (λ k. k + 1) w.stems.ensures.number ∙ ap (λ b. stems_with b n) (sym w.if-lists.false ∙ c.lists.ensures) ∙ more
    ]

pub returns-clause-some : goal.returns-clause-some
returns-clause-some c =
    let catalog = c.args.catalog.now in
    some_over (with_version c.args.stem.now c.args.version.now catalog) c.args.texts.now.manifest c.args.texts.now.catalog.items c.len.result c.if-lists.stems (c.count-versions.result + 1) (length c.as_str.result.now)
    (omega (arith, c.len.ensures, c.args.texts.now.catalog.ok)) (stems_are c) (ap (λ k. k + 1) c.count-versions.ensures ∙ sym (versions_more c.args.stem.now c.args.version.now catalog c.requires.new)) (ap length c.as_str.ensures)
    c.first_over.result c.first_over.ensures.some

pub returns-clause-none : goal.returns-clause-none
returns-clause-none c =
    let catalog = c.args.catalog.now in
    none_over (with_version c.args.stem.now c.args.version.now catalog) c.args.texts.now.manifest c.args.texts.now.catalog.items c.len.result c.if-lists.stems (c.count-versions.result + 1) (length c.as_str.result.now)
    (omega (arith, c.len.ensures, c.args.texts.now.catalog.ok)) (stems_are c) (ap (λ k. k + 1) c.count-versions.ensures ∙ sym (versions_more c.args.stem.now c.args.version.now catalog c.requires.new)) (ap length c.as_str.ensures)
    c.first_over.result c.first_over.ensures.none
