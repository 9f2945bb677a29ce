use Rattle.std.proofs.Common.{map}
use Rattle.std.proofs.lemmas.Bool.{false≢true}
use Rattle.std.proofs.lemmas.Result.{err_from_is_err_and}
use Rattle.ips_catalog.specs.Seen.{seen}
use Rattle.ips_catalog.proofs.Outlines.{Kept}
use Rattle.ips_catalog.proofs.Walks.{package_fails, package_more, packages_end, none_left}
use Rattle.ips_catalog.proofs.Orders.{in_order}
use Rattle.ips_catalog.proofs.packages.read_packages.Goals as goal

pub returns-in_err-package-clause-read : goal.returns-in_err-package-clause-read
returns-in_err-package-clause-read c =
    let p = err_from_is_err_and c.from_residual-in_err-package.result c.from_residual-in_err-package.ensures.1 in
    let e : Kept = (c.in-Some.key, c.in-Some.value) in
    rw (p.1, p.2)
    (package_fails c.args.publisher.now c.as_str.result.now c.args.members.now.entries c.members.members.entries c.pop_first.new.self.entries e (map seen c.members.packages.items) c.in_err-package.field-0.0 c.in-Some.ensures.removal c.as_str.ensures c.members.invariant c.in_err-package.ensures)

pub members-preserved : goal.members-preserved
members-preserved c =
    let e : Kept = (c.in-Some.key, c.in-Some.value) in
    package_more c.args.publisher.now c.as_str.result.now c.args.members.now.entries c.members.members.entries c.pop_first.new.self.entries e c.members.packages.items c.push.new.self.items c.in_ok-package.package c.in-Some.ensures.removal c.as_str.ensures c.members.invariant c.in_ok-package.ensures c.in_ok-push.ensures.items

pub returns-clause-read : goal.returns-clause-read
returns-clause-read c =
    packages_end c.args.publisher.now c.args.members.now.entries c.members.members.entries (map seen c.members.packages.items)
    (none_left c.members.members.entries (λ some. false≢true (c.in_default.ensures.variant.1 some))) c.members.invariant

pub returns-clause-ordered : goal.returns-clause-ordered
returns-clause-ordered c =
    in_order c.args.publisher.now c.args.members.now.entries (map seen c.members.packages.items) c.len.ensures.ordered (returns-clause-read c)
