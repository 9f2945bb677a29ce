use Rattle.std.proofs.Common.{◌≡◌, Some, None, option_and_then, refl, sym, ap, ◌∙◌, arith}
use Rattle.std.specs.Prelude.{codes}
use Rattle.json.specs.Json.{read_key}
use Rattle.serde_json.specs.Data.{no_members, put}
use Rattle.serde_json.specs.Find.{as_str}
use Rattle.ips_catalog.proofs.Turns.{members_first, members_next, members_smaller, key_fails, member_fails, members_end}
use Rattle.ips_catalog.proofs.Outlines.{member_here, member_elsewhere}
use Rattle.ips_catalog.proofs.outline.read_version.Goals as goal

pub members-init : goal.members-init
members-init c = (no_members, members_first 123 c.args.reader.now, refl)

pub returns-in_err-key-clause-refused : goal.returns-in_err-key-clause-refused
returns-in_err-key-clause-refused c never =
    let l = c.members in
    key_fails 123 c.args.reader.now l.reader l.invariant.0 l.invariant.1 c.in_err-key.ensures.value

pub returns-in_err-version-clause-refused : goal.returns-in_err-version-clause-refused
returns-in_err-version-clause-refused c refused =
    let l = c.members in
    let k = c.in-Some.key.now in
    let s = c.next_key.new.self in
    let named : read_key l.reader ≡ Some (Some k, s) = grind arith in
    member_fails 123 c.args.reader.now l.reader s l.invariant.0 k l.invariant.1 named (c.read_string.ensures.refused (grind arith))

pub returns-in_err-skip-clause-refused : goal.returns-in_err-skip-clause-refused
returns-in_err-skip-clause-refused c refused =
    let l = c.members in
    let k = c.in-Some.key.now in
    let s = c.next_key.new.self in
    let named : read_key l.reader ≡ Some (Some k, s) = grind arith in
    member_fails 123 c.args.reader.now l.reader s l.invariant.0 k l.invariant.1 named (c.skip.ensures.refused (grind arith))

pub members-smaller-then-eq : goal.members-smaller-then-eq
members-smaller-then-eq c =
    let named : read_key c.members.reader ≡ Some (Some c.in-Some.key.now, c.next_key.new.self) = grind arith in
    let done = c.in_ok-version.ensures.read in
    members_smaller 123 c.members.reader c.next_key.new.self c.read_string.new.reader c.in-Some.key.now done.0 named done.1

pub members-preserved-then-eq : goal.members-preserved-then-eq
members-preserved-then-eq c =
    let l = c.members in
    let k = c.in-Some.key.now in
    let named : read_key l.reader ≡ Some (Some k, c.next_key.new.self) = grind arith in
    let done = c.in_ok-version.ensures.read in
    let ms = l.invariant.0 in (
      put k done.0 ms,
      members_next 123 c.args.reader.now l.reader c.next_key.new.self c.read_string.new.reader ms k done.0 l.invariant.1 named done.1,
      ap (option_and_then as_str) (member_here (codes "version") k done.0 ms (sym c.eq.ensures ∙ c.if-eq.true)) ∙ done.2,
    )

pub members-smaller : goal.members-smaller
members-smaller c =
    let named : read_key c.members.reader ≡ Some (Some c.in-Some.key.now, c.next_key.new.self) = grind arith in
    let done = c.in_ok-skip.ensures.passed in
    members_smaller 123 c.members.reader c.next_key.new.self c.skip.new.reader c.in-Some.key.now done.0 named done.1

pub members-preserved : goal.members-preserved
members-preserved c =
    let l = c.members in
    let k = c.in-Some.key.now in
    let named : read_key l.reader ≡ Some (Some k, c.next_key.new.self) = grind arith in
    let done = c.in_ok-skip.ensures.passed in
    let ms = l.invariant.0 in (
      put k done.0 ms,
      members_next 123 c.args.reader.now l.reader c.next_key.new.self c.skip.new.reader ms k done.0 l.invariant.1 named done.1,
      ap (option_and_then as_str) (member_elsewhere (codes "version") k done.0 ms (sym c.eq.ensures ∙ c.if-eq.false)) ∙ l.invariant.2,
    )

pub returns-clause-read : goal.returns-clause-read
returns-clause-read c =
    let l = c.members in
    let ms = l.invariant.0 in
    let end : read_key l.reader ≡ Some (None, c.next_key.new.self) = grind arith in (
      ms,
      members_end 123 c.args.reader.now l.reader c.next_key.new.self ms l.invariant.1 end,
      l.invariant.2,
    )
