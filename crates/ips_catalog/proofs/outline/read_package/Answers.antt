use Rattle.std.proofs.Common.{◌≡◌, [], ◌∷◌, ◌++◌, Some, None, sym, ap, ap₂, ◌∙◌, arith}
use Rattle.std.proofs.lemmas.List.{map-append}
use Rattle.json.specs.Token.{begin_array}
use Rattle.json.specs.Json.{after_end_array}
use Rattle.json.specs.Reads.{token_of}
use Rattle.serde_json.specs.Data.{array}
use Rattle.serde_json.specs.View.{items_of}
use Rattle.ips_catalog.specs.Outline.{value_at, entry_of}
use Rattle.ips_catalog.proofs.Turns.{items_first, items_next, items_refused, items_end, array_read, array_refused, value_shorter}
use Rattle.ips_catalog.proofs.FirstTokens.{nothing_refused}
use Rattle.ips_catalog.proofs.Outlines.{entries_are}
use Rattle.ips_catalog.proofs.outline.read_package.Goals as goal

pub returns-in_err-token-clause-refused : goal.returns-in_err-token-clause-refused
returns-in_err-token-clause-refused c never = nothing_refused 125 c.args.reader.now (grind arith)

pub items-init : goal.items-init
items-init c = ([], items_first 124 c.next.new.self, sym c.new-entries.ensures.items)

pub returns-in_err-entry-clause-refused : goal.returns-in_err-entry-clause-refused
returns-in_err-entry-clause-refused c refused =
    let first : c.args.reader.now ≡ token_of c.in_ok-token.token ∷ c.next.new.self = grind arith in
    let opened : c.args.reader.now ≡ begin_array ∷ c.next.new.self = first ∙ ap (λ t. token_of t ∷ c.next.new.self) c.in-BeginArray.is in
    let l = c.items in
    let going : (after_end_array l.reader ≡ None) × (c.take_end_array.new.self ≡ l.reader) = grind arith in
    ap (value_at 125) opened ∙ array_refused 125 c.next.new.self (omega arith) (items_refused 124 c.next.new.self l.reader l.invariant.0 l.invariant.1 going.0 (rw (← going.1) (c.read_entry.ensures.refused (grind arith))))

pub items-smaller : goal.items-smaller
items-smaller c =
    let l = c.items in
    let going : (after_end_array l.reader ≡ None) × (c.take_end_array.new.self ≡ l.reader) = grind arith in
    let done = c.in_ok-entry.ensures.read in
    value_shorter 124 l.reader c.read_entry.new.reader done.0 (rw (← going.1) done.1)

pub items-preserved : goal.items-preserved
items-preserved c =
    let l = c.items in
    let going : (after_end_array l.reader ≡ None) × (c.take_end_array.new.self ≡ l.reader) = grind arith in
    let done = c.in_ok-entry.ensures.read in
    let ds = l.invariant.0 in (
      ds ++ done.0 ∷ [],
      items_next 124 c.next.new.self l.reader c.read_entry.new.reader ds done.0 l.invariant.1 going.0 (rw (← going.1) done.1),
      map-append entry_of ds (done.0 ∷ []) ∙ ap₂ (λ es e. es ++ e ∷ []) l.invariant.2 done.2 ∙ sym c.in_ok-push.ensures.items,
    )

pub returns-clause-read : goal.returns-clause-read
returns-clause-read c =
    let first : c.args.reader.now ≡ token_of c.in_ok-token.token ∷ c.next.new.self = grind arith in
    let opened : c.args.reader.now ≡ begin_array ∷ c.next.new.self = first ∙ ap (λ t. token_of t ∷ c.next.new.self) c.in-BeginArray.is in
    let l = c.items in
    let ds = l.invariant.0 in
    let end : after_end_array l.reader ≡ Some c.take_end_array.new.self = grind arith in (
      array (items_of ds),
      ap (value_at 125) opened ∙ array_read 125 c.next.new.self c.take_end_array.new.self (items_of ds) (omega arith) (items_end 124 c.next.new.self l.reader c.take_end_array.new.self ds l.invariant.1 end),
      ap (λ es. Some es) (entries_are ds ∙ l.invariant.2),
    )
