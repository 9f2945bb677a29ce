use Rattle.std.proofs.Common.{◌≡◌, ℕ, List, map, string_bytes, Global, arith}
use Rattle.std.proofs.lemmas.List.{length-map}
use Rattle.ips_send_words.proofs.Faults.{create_bad, create_extra}
use Rattle.ips_send_words.proofs.reading.read_create.Goals as goal

pub returns-in-Err-clause-bad : goal.returns-in-Err-clause-bad
returns-in-Err-clause-bad c = create_bad (map (string_bytes {Z = Global}) c.args.words.now) c.requires.front c.requires.verb ℕ ℕ c.in-Err.fault c.in-Err.ensures.bad

pub returns-then-words-gt7-clause-bad : goal.returns-then-words-gt7-clause-bad
returns-then-words-gt7-clause-bad c = λ moment.
    let words = map (string_bytes {Z = Global}) c.args.words.now in
    let found = c.in-Ok.ensures.found in
    create_extra words moment c.requires.front c.requires.verb c.in-Ok.publisher found.0 found.1 (omega (arith, length-map c.args.words.now (string_bytes {Z = Global}), c.if-words-gt7.true))
