use Rattle.std.proofs.Common.{◌≡◌, ◌∙◌, ℕ, Vec, Global, Some, None, sym, ap}
use Rattle.std.specs.BTreeMap.{BTreeMap}
use Rattle.ips_outside.specs.Table.{kind_at, with_dir_mode}
use Rattle.ips_outside.specs.declared.table.Kind.{Kind}
use Rattle.ips_outside.proofs.Maps.{kind_at-get, kind_at-edit, kind_at-no_edit}
use Rattle.ips_outside.proofs.table.set_dir_mode.Goals as goal

pub returns-in-Some : goal.returns-in-Some
returns-in-Some c =
    let old = c.args.paths.now.entries in
    let at : kind_at old c.args.path.now ≡ Some c.in-Some.kind.now = sym (kind_at-get old c.args.path.now) ∙ sym c.in-Some.ensures.value in
    λ q. kind_at-edit (with_dir_mode c.args.mode) c.args.path.now q old (c.get_mut.follows.lender c.set_dir_mode.new.self).entries c.in-Some.kind.now c.set_dir_mode.new.self at c.set_dir_mode.ensures (c.get_mut.follows.holds c.set_dir_mode.new.self).0

pub returns-in_default : goal.returns-in_default
returns-in_default c =
    let old = c.args.paths.now.entries in
    let none : kind_at old c.args.path.now ≡ None = sym (kind_at-get old c.args.path.now) ∙ sym c.in_default.ensures.value in
    λ q. ap (λ (m : BTreeMap (Vec ℕ Global) Kind). kind_at m.entries q) c.get_mut.follows.holds-at-none ∙ kind_at-no_edit (with_dir_mode c.args.mode) c.args.path.now q old none
