use Rattle.std.proofs.Common.{◌≡◌, ◌++◌, take}
use Rattle.ips_records.specs.Lines.{lines_text}
use Rattle.ips_state.proofs.printing.push_texts.Given as goal

abbrev pub invariant-loop-text : goal.invariant-loop-text
invariant-loop-text l = l.out.items ≡ l.fn.out.items ++ lines_text (take l.text-index l.texts)
