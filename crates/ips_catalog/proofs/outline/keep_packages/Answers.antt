use Rattle.std.proofs.Common.{◌≡◌, Some, None, sym, ap, ◌∙◌, arith}
use Rattle.std.specs.BTreeMap.{insert_entry}
use Rattle.std.specs.Cmp.Lexicographic.{slice_cmp}
use Rattle.std.specs.Ordering.{nat_cmp}
use Rattle.json.specs.Json.{read_key}
use Rattle.serde_json.specs.Data.{no_members, put}
use Rattle.ips_catalog.specs.Outline.{packages_kept}
use Rattle.ips_catalog.proofs.Turns.{members_first, members_next, members_smaller, key_fails, member_fails, members_end}
use Rattle.ips_catalog.proofs.Outlines.{package_put}
use Rattle.ips_catalog.proofs.outline.keep_packages.Goals as goal

pub members-init : goal.members-init
members-init c = (no_members, members_first 125 c.args.reader.now, ap packages_kept (sym c.requires))

pub returns-in_err-key-clause-refused : goal.returns-in_err-key-clause-refused
returns-in_err-key-clause-refused c never =
    let l = c.members in
    key_fails 125 c.args.reader.now l.reader l.invariant.0 l.invariant.1 c.in_err-key.ensures.value

pub returns-in_err-package-clause-refused : goal.returns-in_err-package-clause-refused
returns-in_err-package-clause-refused c refused =
    let l = c.members in
    let k = c.in-Some.key.now in
    let s = c.next_key.new.self in
    let named : read_key l.reader ≡ Some (Some k, s) = grind arith in
    member_fails 125 c.args.reader.now l.reader s l.invariant.0 k l.invariant.1 named (c.read_package.ensures.refused (grind arith))

pub members-smaller : goal.members-smaller
members-smaller c =
    let named : read_key c.members.reader ≡ Some (Some c.in-Some.key.now, c.next_key.new.self) = grind arith in
    let done = c.in_ok-package.ensures.read in
    members_smaller 125 c.members.reader c.next_key.new.self c.read_package.new.reader c.in-Some.key.now done.0 named done.1

pub members-preserved : goal.members-preserved
members-preserved c =
    let l = c.members in
    let k = c.in-Some.key.now in
    let named : read_key l.reader ≡ Some (Some k, c.next_key.new.self) = grind arith in
    let done = c.in_ok-package.ensures.read in
    let kept = c.in_ok-package.package in
    let ms = l.invariant.0 in (
      put k done.0 ms,
      members_next 125 c.args.reader.now l.reader c.next_key.new.self c.read_package.new.reader ms k done.0 l.invariant.1 named done.1,
      package_put k done.0 kept ms l.packages.entries l.invariant.2 done.2
          ∙ ap (λ name. packages_kept (insert_entry (slice_cmp nat_cmp) l.packages.entries name kept)) (sym c.in_ok-stem.ensures)
          ∙ ap packages_kept (sym c.in_ok-insert.ensures.entries),
    )

pub returns-clause-read : goal.returns-clause-read
returns-clause-read c =
    let l = c.members in
    let ms = l.invariant.0 in
    let end : read_key l.reader ≡ Some (None, c.next_key.new.self) = grind arith in (
      ms,
      members_end 125 c.args.reader.now l.reader c.next_key.new.self ms l.invariant.1 end,
      l.invariant.2,
    )
