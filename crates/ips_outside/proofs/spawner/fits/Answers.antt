use Rattle.std.proofs.Common.{sym, arith, ap, List, ℕ, length, take}
use Rattle.std.specs.List.{flat_map}
use Rattle.std.proofs.lemmas.Bool.{lt-leb}
use Rattle.ips_outside.specs.Spawning.{words_text}
use Rattle.ips_outside.proofs.Spawns.{text_within, text_length}
use Rattle.ips_outside.proofs.spawner.fits.Goals as goal

pub returns-then-left-length : goal.returns-then-left-length
returns-then-left-length c =
    let words = c.args.words.now in
    let within = text_within words c.loop-word.word-index c.word-item.result c.loop-word-test.true c.word-item.is in
    let long = ap (λ (l : List ℕ). length l) c.as_str-length.ensures in
    sym (lt-leb (length (words_text words)) c.args.room (omega (arith, within, long, text_length words, c.loop-word.invariant, c.if-left-length.true)))
