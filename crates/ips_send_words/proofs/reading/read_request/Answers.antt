use Rattle.std.proofs.Common.{◌≡◌, ℕ, List, map, string_bytes, Global, arith}
use Rattle.ips_send_words.proofs.Faults.{verb_wrong, verb_missing}
use Rattle.ips_send_words.proofs.reading.read_request.Goals as goal

pub returns-in-Err-clause-bad : goal.returns-in-Err-clause-bad
returns-in-Err-clause-bad c = c.in-Err.ensures.bad c.args.moment

pub returns-in-Some-clause-bad : goal.returns-in-Some-clause-bad
returns-in-Some-clause-bad c =
    verb_wrong (map (string_bytes {Z = Global}) c.args.words.now) c.args.moment c.in-Some.field-0.now c.in-Ok.ensures.found c.in-Some.ensures.some (λ e. c.in-Some.not-create e) (λ e. c.in-Some.not-publish e)

pub returns-in-None-clause-bad : goal.returns-in-None-clause-bad
returns-in-None-clause-bad c = verb_missing (map (string_bytes {Z = Global}) c.args.words.now) c.args.moment c.missing.result c.missing.ensures.place c.missing.ensures.why c.in-Ok.ensures.found c.in-None.ensures.none
