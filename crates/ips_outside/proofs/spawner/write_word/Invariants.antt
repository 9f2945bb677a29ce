use Rattle.std.proofs.Common.{◌≡◌, ◌++◌, vec_capacity, take, map}
use Rattle.ips_outside.specs.declared.spawner.Mark.TheVariants as mark
use Rattle.ips_outside.proofs.spawner.write_word.Given as goal

abbrev pub invariant-loop-byte : goal.invariant-loop-byte
invariant-loop-byte l = record {
  text : l.text.items ≡ l.fn.text.items ++ take l.byte-index l.word;
  marks : l.marks.items ≡ l.fn.marks.items ++ map (λ byte. mark.Inside byte) (take l.byte-index l.word);
  text_room : vec_capacity l.text ≡ vec_capacity l.fn.text;
  marks_room : vec_capacity l.marks ≡ vec_capacity l.fn.marks;
}
