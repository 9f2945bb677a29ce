use Rattle.std.proofs.Common.{◌≡◌, ◌++◌, vec_capacity, take, length}
use Rattle.std.specs.List.{flat_map}
use Rattle.ips_outside.specs.Spawning.{word_text}
use Rattle.ips_outside.specs.Marks.{words_marks}
use Rattle.ips_outside.proofs.spawner.write_run.Given as goal

abbrev pub invariant-loop-word : goal.invariant-loop-word
invariant-loop-word l = record {
  text : l.text.items ≡ l.fn.text.items ++ flat_map word_text (take l.word-index l.words);
  marks : l.marks.items ≡ l.fn.marks.items ++ words_marks (take l.word-index l.words);
  same : length l.marks.items ≡ length l.text.items;
  text_room : vec_capacity l.text ≡ vec_capacity l.fn.text;
  marks_room : vec_capacity l.marks ≡ vec_capacity l.fn.marks;
}
