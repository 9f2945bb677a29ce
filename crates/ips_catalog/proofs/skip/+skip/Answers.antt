use Rattle.std.proofs.Common.{◌≡◌, [], ◌∷◌, Some, None, sym, ap, ◌∙◌, arith}
use Rattle.json.specs.Json.{value}
use Rattle.json.proofs.Grammar.{value_is}
use Rattle.serde_json.specs.Read.{number_of, of_json, converted}
use Rattle.json.specs.Json.{after_end_array, read_key}
use Rattle.json.specs.Reads.{token_of}
use Rattle.serde_json.specs.Data.{no_members}
use Rattle.serde_json.specs.View.{items_of}
use Rattle.ips_catalog.proofs.Turns.{items_first, items_next, items_refused, items_end, members_first, members_next, members_smaller, key_fails, member_fails, members_end, value_shorter}
use Rattle.ips_catalog.proofs.FirstTokens.{nothing_refused, string_passed, boolean_passed, null_passed, some_number, no_number, number_passed, number_fails, array_passed, array_fails, array_too_deep, object_passed, object_fails, object_too_deep, on_ok}
use Rattle.ips_catalog.proofs.skip.+skip.Goals as goal

pub skip-returns-in_err-token-clause-refused : goal.skip-returns-in_err-token-clause-refused
skip-returns-in_err-token-clause-refused t c never = nothing_refused c.args.depth c.args.reader.now (grind arith)

pub skip_rest-returns-in-String-clause-passed : goal.skip_rest-returns-in-String-clause-passed
skip_rest-returns-in-String-clause-passed t c = string_passed _ _ _ _ c.in-String.is

pub skip_rest-returns-in-Bool-clause-passed : goal.skip_rest-returns-in-Bool-clause-passed
skip_rest-returns-in-Bool-clause-passed t c = boolean_passed _ _ _ _ c.in-Bool.is

pub skip_rest-returns-in-Null-clause-passed : goal.skip_rest-returns-in-Null-clause-passed
skip_rest-returns-in-Null-clause-passed t c = null_passed _ _ _ c.in-Null.is

pub skip_rest-returns-then-fits-clause-passed : goal.skip_rest-returns-then-fits-clause-passed
skip_rest-returns-then-fits-clause-passed t c =
    let n = some_number (number_of c.in-Number.text.now) (sym c.fits.ensures ∙ c.if-fits.true) in
    number_passed _ _ _ _ n.0 c.in-Number.is n.1

pub skip_rest-returns-else-fits-clause-refused : goal.skip_rest-returns-else-fits-clause-refused
skip_rest-returns-else-fits-clause-refused t c never =
    number_fails _ _ _ _ c.in-Number.is (no_number (number_of c.in-Number.text.now) (sym c.fits.ensures ∙ c.if-fits.false))

pub skip_rest-returns-in-EndObject-clause-refused : goal.skip_rest-returns-in-EndObject-clause-refused
skip_rest-returns-in-EndObject-clause-refused t c refused =
    let ts = token_of c.args.token ∷ c.args.reader.now in
    let none : value c.args.depth ts ≡ None = rw (value_is c.args.depth ts) (grind arith) in
    ap (converted of_json) none

pub skip_rest-returns-then-depth-eq0-clause-refused : goal.skip_rest-returns-then-depth-eq0-clause-refused
skip_rest-returns-then-depth-eq0-clause-refused t c refused = array_too_deep _ _ _ c.in-BeginArray.is (omega arith)

pub skip_rest-returns-then-depth-eq0-2-clause-refused : goal.skip_rest-returns-then-depth-eq0-2-clause-refused
skip_rest-returns-then-depth-eq0-2-clause-refused t c refused = object_too_deep _ _ _ c.in-BeginObject.is (omega arith)

pub skip_rest-returns-else-depth-eq0-clause-passed : goal.skip_rest-returns-else-depth-eq0-clause-passed
skip_rest-returns-else-depth-eq0-clause-passed t c = on_ok c.skip_items.result (λ h. array_passed _ _ _ _ h.0 c.in-BeginArray.is (omega arith) h.1) c.skip_items.ensures.passed

pub skip_rest-returns-else-depth-eq0-clause-refused : goal.skip_rest-returns-else-depth-eq0-clause-refused
skip_rest-returns-else-depth-eq0-clause-refused t c refused = array_fails _ _ _ c.in-BeginArray.is (omega arith) (c.skip_items.ensures.refused refused)

pub skip_rest-returns-else-depth-eq0-2-clause-passed : goal.skip_rest-returns-else-depth-eq0-2-clause-passed
skip_rest-returns-else-depth-eq0-2-clause-passed t c = on_ok c.skip_members.result (λ h. object_passed _ _ _ _ h.0 c.in-BeginObject.is (omega arith) h.1) c.skip_members.ensures.passed

pub skip_rest-returns-else-depth-eq0-2-clause-refused : goal.skip_rest-returns-else-depth-eq0-2-clause-refused
skip_rest-returns-else-depth-eq0-2-clause-refused t c refused = object_fails _ _ _ c.in-BeginObject.is (omega arith) (c.skip_members.ensures.refused refused)

pub skip_items-items-init : goal.skip_items-items-init
skip_items-items-init t c = ([], items_first c.args.depth c.args.reader.now)

pub skip_items-returns-in_err-skip-clause-refused : goal.skip_items-returns-in_err-skip-clause-refused
skip_items-returns-in_err-skip-clause-refused t c refused =
    let l = c.items in
    let going : (after_end_array l.reader ≡ None) × (c.take_end_array.new.self ≡ l.reader) = grind arith in
    items_refused c.args.depth c.args.reader.now l.reader l.invariant.0 l.invariant.1 going.0 (rw (← going.1) (c.skip.ensures.refused (grind arith)))

pub skip_items-items-preserved : goal.skip_items-items-preserved
skip_items-items-preserved t c =
    let l = c.items in
    let going : (after_end_array l.reader ≡ None) × (c.take_end_array.new.self ≡ l.reader) = grind arith in
    let done = c.in_ok-skip.ensures.passed in
    (_, items_next c.args.depth c.args.reader.now l.reader c.skip.new.reader l.invariant.0 done.0 l.invariant.1 going.0 (rw (← going.1) done.1))

pub skip_items-returns-clause-passed : goal.skip_items-returns-clause-passed
skip_items-returns-clause-passed t c =
    let l = c.items in
    (items_of l.invariant.0, items_end c.args.depth c.args.reader.now l.reader c.take_end_array.new.self l.invariant.0 l.invariant.1 (grind arith))

pub skip_members-members-init : goal.skip_members-members-init
skip_members-members-init t c = (no_members, members_first c.args.depth c.args.reader.now)

pub skip_members-returns-in_err-next_key-clause-refused : goal.skip_members-returns-in_err-next_key-clause-refused
skip_members-returns-in_err-next_key-clause-refused t c refused =
    let l = c.members in
    key_fails c.args.depth c.args.reader.now l.reader l.invariant.0 l.invariant.1 c.in_err-next_key.ensures.value

pub skip_members-returns-in_err-skip-clause-refused : goal.skip_members-returns-in_err-skip-clause-refused
skip_members-returns-in_err-skip-clause-refused t c refused =
    let l = c.members in
    let k = c.in-Some.field-0.now in
    let s = c.next_key.new.self in
    let named : read_key l.reader ≡ Some (Some k, s) = grind arith in
    member_fails c.args.depth c.args.reader.now l.reader s l.invariant.0 k l.invariant.1 named (c.skip.ensures.refused (grind arith))

pub skip_members-members-preserved : goal.skip_members-members-preserved
skip_members-members-preserved t c =
    let l = c.members in
    let k = c.in-Some.field-0.now in
    let s = c.next_key.new.self in
    let named : read_key l.reader ≡ Some (Some k, s) = grind arith in
    let done = c.in_ok-skip.ensures.passed in
    (_, members_next c.args.depth c.args.reader.now l.reader s c.skip.new.reader l.invariant.0 k done.0 l.invariant.1 named done.1)

pub skip_members-returns-clause-passed : goal.skip_members-returns-clause-passed
skip_members-returns-clause-passed t c =
    let l = c.members in
    (l.invariant.0, members_end c.args.depth c.args.reader.now l.reader c.next_key.new.self l.invariant.0 l.invariant.1 (grind arith))

pub skip_items-items-smaller : goal.skip_items-items-smaller
skip_items-items-smaller t c =
    let l = c.items in
    let going : (after_end_array l.reader ≡ None) × (c.take_end_array.new.self ≡ l.reader) = grind arith in
    let done = c.in_ok-skip.ensures.passed in
    value_shorter c.args.depth l.reader c.skip.new.reader done.0 (rw (← going.1) done.1)

pub skip_members-members-smaller : goal.skip_members-members-smaller
skip_members-members-smaller t c =
    let l = c.members in
    let k = c.in-Some.field-0.now in
    let s = c.next_key.new.self in
    let named : read_key l.reader ≡ Some (Some k, s) = grind arith in
    let done = c.in_ok-skip.ensures.passed in
    members_smaller c.args.depth l.reader s c.skip.new.reader k done.0 named done.1
