use Rattle.std.proofs.Common.{◌≡◌, ◌∙◌, ℕ, Vec, Global, Some, None, sym, ap}
use Rattle.std.specs.BTreeMap.{BTreeMap}
use Rattle.ips_outside.specs.Table.{kind_at, with_dir_mark, has_dir}
use Rattle.ips_outside.specs.declared.table.Kind.{Kind}
use Rattle.ips_outside.proofs.Maps.{kind_at-get, kind_at-edit, kind_at-no_edit}
use Rattle.ips_outside.proofs.table.mark_dir.Goals as goal

pub returns-in-Some-clause-marked : goal.returns-in-Some-clause-marked
returns-in-Some-clause-marked c =
    let old = c.args.paths.now.entries in
    let at : kind_at old c.args.path.now ≡ Some c.in-Some.kind.now = sym (kind_at-get old c.args.path.now) ∙ sym c.in-Some.ensures.value in
    λ q. kind_at-edit with_dir_mark c.args.path.now q old (c.get_mut.follows.lender c.mark.new.self).entries c.in-Some.kind.now c.mark.new.self at c.mark.ensures.marked (c.get_mut.follows.holds c.mark.new.self).0

pub returns-in-Some-clause-found : goal.returns-in-Some-clause-found
returns-in-Some-clause-found c =
    let old = c.args.paths.now.entries in
    let at : kind_at old c.args.path.now ≡ Some c.in-Some.kind.now = sym (kind_at-get old c.args.path.now) ∙ sym c.in-Some.ensures.value in
    c.mark.ensures.found ∙ ap has_dir (sym at)

pub returns-in-None-clause-marked : goal.returns-in-None-clause-marked
returns-in-None-clause-marked c =
    let old = c.args.paths.now.entries in
    let none : kind_at old c.args.path.now ≡ None = sym (kind_at-get old c.args.path.now) ∙ sym c.in-None.ensures.value in
    λ q. ap (λ (m : BTreeMap (Vec ℕ Global) Kind). kind_at m.entries q) c.get_mut.follows.holds-at-none ∙ kind_at-no_edit with_dir_mark c.args.path.now q old none

pub returns-in-None-clause-found : goal.returns-in-None-clause-found
returns-in-None-clause-found c =
    let old = c.args.paths.now.entries in
    let none : kind_at old c.args.path.now ≡ None = sym (kind_at-get old c.args.path.now) ∙ sym c.in-None.ensures.value in
    ap has_dir (sym none)
