use Rattle.std.proofs.Common.{ℕ, [], true, false, not, get_or, slice_get, rules, tests, ap, ◌∙◌}
use Rattle.std.specs.List.{list_any}
use Rattle.std.specs.Option.{option_map_or}
use Rattle.std.proofs.lemmas.Bool.{and_parts}
use Rattle.std.proofs.lemmas.Iterator.{YieldsList-from_slice}
use Rattle.std.proofs.lemmas.Iterator.Search.{any_from_yields_List}
use Rattle.ips_books.specs.Lines.{AccountLine}
use Rattle.ips_books.specs.Accounts.{is_of}
use Rattle.ips_books.specs.Writing.{has_number, is_of_other}
use Rattle.ips_passwd.specs.Entries.{places_with}
use Rattle.ips_passwd.proofs.Firsts.{any_led}
use Rattle.ips_passwd.proofs.numbers.is_taken.Goals as goal

pub returns : goal.returns
returns c =
    let lines = c.args.lines.now in
    let id = c.args.id in
    let name = c.args.name.now in
    let none : AccountLine = record { text = []; ended = true } in
    any_from_yields_List (λ (place : ℕ). option_map_or (is_of_other name id) (slice_get lines place) false) _ _ c.any.result c.any.ensures.ran (YieldsList-from_slice c.led.result.now cc) (λ x b q k. search (rules, tests))
    ∙ ap (list_any (λ place. option_map_or (is_of_other name id) (slice_get lines place) false)) c.led.ensures
    ∙ any_led (is_of_other name id) lines (places_with c.args.numbers.now id) none (λ i lt e. c.requires i none lt id (and_parts (has_number id (get_or lines i none)) (not (is_of name (get_or lines i none))) e).0)
