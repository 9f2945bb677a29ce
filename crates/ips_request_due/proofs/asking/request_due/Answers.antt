use Rattle.std.proofs.Common.{List, map, false, sym, subst}
use Rattle.std.specs.List.{AllByRecursion}
use Rattle.ips_fmri.specs.Name.{IsStem}
use Rattle.ips_books.specs.Seen.{accounts}
use Rattle.ips_manifest.specs.declared.package.Package.{Package}
use Rattle.ips_state.specs.State.{recorded}
use Rattle.ips_due.specs.Delivered.{request_due}
use Rattle.ips_due.specs.outstanding.Parts.{due_file}
use Rattle.ips_delivered.specs.delivered.Delivering.{PackagesDeliver}
use Rattle.ips_delivered.proofs.withdrawn.More.{package_stems}
use Rattle.ips_request_due.proofs.Meaning.{by_bytes, turned}
use Rattle.ips_request_due.proofs.asking.request_due.Goals as goal

pub delivered-requires : goal.delivered-requires
delivered-requires c = record { stems = subst (λ (l : List Package). AllByRecursion (λ (p : Package). IsStem false p.stem) l) (sym c.deref.ensures.value) (package_stems c.args.new.now.installed.items c.requires.new.installed.each) }

pub returns-clause-together : goal.returns-clause-together
returns-clause-together c =
    let files = map due_file c.args.accounts.now in
    let old = recorded c.args.old.now in
    let new = recorded c.args.new.now in
    let made = c.in_ok-with_records.ensures in
    let was = made.old.0 in
    let d = c.in_ok-others.ensures.records in
    let is = d.0 in
    let named = c.names_are_one.ensures.delivered (accounts c.args.books.now) new.settings c.args.new.now.installed.items is (subst (λ (l : List Package). PackagesDeliver (accounts c.args.books.now) new.settings l is) c.deref.ensures.value d.1) in
    let means = made.means was is made.old.1 named d.3 in
    c.due_is_told_by_paths.ensures.together (request_due files old new was is) c.in_ok-with_records.field-0 (turned c.in_ok-with_records.field-0 (request_due files old new was is) means) (c.requests_hang_together.ensures files old new was is c.requires.accounts.paths (by_bytes was made.old.2) (by_bytes is d.2))

pub returns-clause-proper : goal.returns-clause-proper
returns-clause-proper c =
    let files = map due_file c.args.accounts.now in
    let old = recorded c.args.old.now in
    let new = recorded c.args.new.now in
    let made = c.in_ok-with_records.ensures in
    let was = made.old.0 in
    let d = c.in_ok-others.ensures.records in
    let is = d.0 in
    let named = c.names_are_one.ensures.delivered (accounts c.args.books.now) new.settings c.args.new.now.installed.items is (subst (λ (l : List Package). PackagesDeliver (accounts c.args.books.now) new.settings l is) c.deref.ensures.value d.1) in
    let means = made.means was is made.old.1 named d.3 in
    c.due_is_told_by_paths.ensures.proper (request_due files old new was is) c.in_ok-with_records.field-0 (turned c.in_ok-with_records.field-0 (request_due files old new was is) means)
    (c.requests_have_proper_due.ensures files old new was is c.requires.accounts.paths c.requires.accounts.modes c.requires.old c.requires.new made.old.2 d.2)

pub returns-clause-apart : goal.returns-clause-apart
returns-clause-apart c = λ bytes holds t o of.
    let files = map due_file c.args.accounts.now in
    let old = recorded c.args.old.now in
    let new = recorded c.args.new.now in
    let made = c.in_ok-with_records.ensures in
    let was = made.old.0 in
    let d = c.in_ok-others.ensures.records in
    let is = d.0 in
    let named = c.names_are_one.ensures.delivered (accounts c.args.books.now) new.settings c.args.new.now.installed.items is (subst (λ (l : List Package). PackagesDeliver (accounts c.args.books.now) new.settings l is) c.deref.ensures.value d.1) in
    let means = made.means was is made.old.1 named d.3 in
    c.requests_leave_salvage.ensures bytes holds files old new was is t o c.requires.accounts.paths (by_bytes was made.old.2) (by_bytes is d.2) (c.due_is_told_by_paths.ensures.over c.in_ok-with_records.field-0 (request_due files old new was is) means bytes holds t o of)
