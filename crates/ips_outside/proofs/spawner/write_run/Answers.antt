use Rattle.std.proofs.Common.{◌∙◌, ap, length, ◌++◌, ◌∷◌, [], arith, length-append}
use Rattle.std.specs.List.{flat_map}
use Rattle.std.proofs.Common.{take}
use Rattle.ips_outside.specs.Spawning.{word_text}
use Rattle.ips_outside.proofs.Spawns.{text_within, text_length}
use Rattle.ips_outside.proofs.spawner.write_run.Goals as goal

pub write_word-requires-clause-text : goal.write_word-requires-clause-text
write_word-requires-clause-text c =
    let within = text_within c.args.words.now c.loop-word.word-index c.word-item.result c.loop-word-test.true c.word-item.is in
    let word = ap length (c.as_bytes.ensures.value ∙ c.as_str.ensures) in
    omega (arith, within, word, length-append c.as_bytes.result.now (0 ∷ []), text_length c.args.words.now, ap length c.loop-word.invariant.text, length-append c.args.text.now.items (flat_map word_text (take c.loop-word.word-index c.args.words.now)), c.loop-word.invariant.text_room, c.requires.text)

pub write_word-requires-clause-marks : goal.write_word-requires-clause-marks
write_word-requires-clause-marks c =
    let within = text_within c.args.words.now c.loop-word.word-index c.word-item.result c.loop-word-test.true c.word-item.is in
    let word = ap length (c.as_bytes.ensures.value ∙ c.as_str.ensures) in
    omega (arith, within, word, length-append c.as_bytes.result.now (0 ∷ []), text_length c.args.words.now, ap length c.loop-word.invariant.text, length-append c.args.text.now.items (flat_map word_text (take c.loop-word.word-index c.args.words.now)), c.loop-word.invariant.marks_room, c.requires.marks)
