use Rattle.std.proofs.Common.{◌≡◌, ℕ, List, map, string_bytes, Global, arith}
use Rattle.std.proofs.lemmas.List.{length-map}
use Rattle.ips_send_words.proofs.Faults.{name_bad, path_bad, publish_extra, publish_all}
use Rattle.ips_send_words.proofs.reading.read_publish.Goals as goal

pub returns-in-Err-clause-bad : goal.returns-in-Err-clause-bad
returns-in-Err-clause-bad c = name_bad (map (string_bytes {Z = Global}) c.args.words.now) c.args.moment c.requires.front c.requires.verb ℕ ℕ c.in-Err.fault c.in-Err.ensures.bad

pub returns-in-Err-path_at-clause-bad : goal.returns-in-Err-path_at-clause-bad
returns-in-Err-path_at-clause-bad c =
    let found = c.in-Ok.ensures.found in
    path_bad (map (string_bytes {Z = Global}) c.args.words.now) c.args.moment c.requires.front c.requires.verb found.0 c.in-Ok.named.publisher c.in-Ok.named.stem c.in-Ok.named.version found.1 found.2 ℕ ℕ
    c.in-Err-path_at.fault c.in-Err-path_at.ensures.bad

pub returns-then-words-gt8-clause-bad : goal.returns-then-words-gt8-clause-bad
returns-then-words-gt8-clause-bad c =
    let found = c.in-Ok.ensures.found in
    let path = c.in-Ok-path_at.ensures.found in
    publish_extra (map (string_bytes {Z = Global}) c.args.words.now) c.args.moment c.requires.front c.requires.verb found.0 c.in-Ok.named.publisher c.in-Ok.named.stem c.in-Ok.named.version found.1 found.2
    c.in-Ok-path_at.path.bytes path.0 path.1 (omega (arith, length-map c.args.words.now (string_bytes {Z = Global}), c.if-words-gt8.true))

pub returns-clause-found : goal.returns-clause-found
returns-clause-found c =
    let found = c.in-Ok.ensures.found in
    let path = c.in-Ok-path_at.ensures.found in (
      publish_all (map (string_bytes {Z = Global}) c.args.words.now) c.args.moment c.requires.front c.requires.verb found.0 c.in-Ok.named.publisher c.in-Ok.named.stem c.in-Ok.named.version found.1 found.2
          c.in-Ok-path_at.path.bytes path.0 path.1 (omega (arith, length-map c.args.words.now (string_bytes {Z = Global}), c.if-words-gt8.false)),
      (found.0, found.1, found.2),
      path.0,
    )
