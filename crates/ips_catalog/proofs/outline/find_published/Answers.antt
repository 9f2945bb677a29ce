use Rattle.std.proofs.Common.{◌≡◌, Some, None, option_map, refl, sym, ap, ◌∙◌, arith}
use Rattle.json.specs.Json.{read_key}
use Rattle.serde_json.specs.Data.{no_members, put}
use Rattle.ips_catalog.specs.Outline.{published_of}
use Rattle.ips_catalog.proofs.Turns.{members_first, members_next, members_smaller, key_fails, member_fails, members_end}
use Rattle.ips_catalog.proofs.Outlines.{member_here, member_elsewhere}
use Rattle.ips_catalog.proofs.outline.find_published.Goals as goal

pub members-init : goal.members-init
members-init c = (no_members, members_first 126 c.args.reader.now, refl)

pub returns-in_err-key-clause-refused : goal.returns-in_err-key-clause-refused
returns-in_err-key-clause-refused c never =
    let l = c.members in
    key_fails 126 c.args.reader.now l.reader l.invariant.0 l.invariant.1 c.in_err-key.ensures.value

pub returns-in_err-read_published-clause-refused : goal.returns-in_err-read_published-clause-refused
returns-in_err-read_published-clause-refused c refused =
    let l = c.members in
    let k = c.in-Some.key.now in
    let s = c.next_key.new.self in
    let named : read_key l.reader ≡ Some (Some k, s) = grind arith in
    member_fails 126 c.args.reader.now l.reader s l.invariant.0 k l.invariant.1 named (c.read_published.ensures.refused (grind arith))

pub returns-in_err-skip-clause-refused : goal.returns-in_err-skip-clause-refused
returns-in_err-skip-clause-refused c refused =
    let l = c.members in
    let k = c.in-Some.key.now in
    let s = c.next_key.new.self in
    let named : read_key l.reader ≡ Some (Some k, s) = grind arith in
    member_fails 126 c.args.reader.now l.reader s l.invariant.0 k l.invariant.1 named (c.skip.ensures.refused (grind arith))

pub members-smaller-then-eq : goal.members-smaller-then-eq
members-smaller-then-eq c =
    let named : read_key c.members.reader ≡ Some (Some c.in-Some.key.now, c.next_key.new.self) = grind arith in
    let done = c.in_ok-read_published.ensures.read in
    members_smaller 126 c.members.reader c.next_key.new.self c.read_published.new.reader c.in-Some.key.now done.0 named done.1

pub members-preserved-then-eq : goal.members-preserved-then-eq
members-preserved-then-eq c =
    let l = c.members in
    let k = c.in-Some.key.now in
    let named : read_key l.reader ≡ Some (Some k, c.next_key.new.self) = grind arith in
    let done = c.in_ok-read_published.ensures.read in
    let ms = l.invariant.0 in (
      put k done.0 ms,
      members_next 126 c.args.reader.now l.reader c.next_key.new.self c.read_published.new.reader ms k done.0 l.invariant.1 named done.1,
      ap (option_map published_of) (member_here c.args.publisher.now k done.0 ms (sym c.eq.ensures ∙ c.if-eq.true)) ∙ ap (λ v. Some v) done.2,
    )

pub members-smaller : goal.members-smaller
members-smaller c =
    let named : read_key c.members.reader ≡ Some (Some c.in-Some.key.now, c.next_key.new.self) = grind arith in
    let done = c.in_ok-skip.ensures.passed in
    members_smaller 126 c.members.reader c.next_key.new.self c.skip.new.reader c.in-Some.key.now done.0 named done.1

pub members-preserved : goal.members-preserved
members-preserved c =
    let l = c.members in
    let k = c.in-Some.key.now in
    let named : read_key l.reader ≡ Some (Some k, c.next_key.new.self) = grind arith in
    let done = c.in_ok-skip.ensures.passed in
    let ms = l.invariant.0 in (
      put k done.0 ms,
      members_next 126 c.args.reader.now l.reader c.next_key.new.self c.skip.new.reader ms k done.0 l.invariant.1 named done.1,
      ap (option_map published_of) (member_elsewhere c.args.publisher.now k done.0 ms (sym c.eq.ensures ∙ c.if-eq.false)) ∙ l.invariant.2,
    )

pub returns-clause-read : goal.returns-clause-read
returns-clause-read c =
    let l = c.members in
    let ms = l.invariant.0 in
    let end : read_key l.reader ≡ Some (None, c.next_key.new.self) = grind arith in (
      ms,
      members_end 126 c.args.reader.now l.reader c.next_key.new.self ms l.invariant.1 end,
      l.invariant.2,
    )
