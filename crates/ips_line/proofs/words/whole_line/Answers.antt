use Rattle.std.proofs.Common.{◌≡◌, ◌<◌, ◌^◌, length, Ok, rules}
use Rattle.ips_line.specs.Line.{in_word}
use Rattle.ips_line.specs.Reading.{some_at, payload_at}
use Rattle.ips_line.specs.Seen.{seen_gapped}
use Rattle.ips_line.proofs.Answered.{head_fits}
use Rattle.ips_line.proofs.words.whole_line.Goals as goal

pub payload_word-requires : goal.payload_word-requires
payload_word-requires c =
    let word : some_at in_word c.run.result.1.now ≡ Ok (c.in_ok-name.name.now, c.in_ok-name.rest.now) = search rules in
    let next : payload_at c.in_ok-name.rest.now ≡ Ok (seen_gapped c.in_ok-payload.payload, c.in_ok-payload.rest.now) = search rules in
    let small : length c.args.line.now < 2 ^ 64 = search rules in
    head_fits c.args.line.now c.run.result.0.now c.run.result.1.now c.in_ok-name.name.now c.in_ok-name.rest.now (seen_gapped c.in_ok-payload.payload, c.in_ok-payload.rest.now) c.run.ensures word next small
