use Rattle.std.proofs.Common.{◌≡◌, ◌∙◌, sym}
use Rattle.ips_load.proofs.HeadWords.{cut_no_publisher, stems_publish, no_stem_publishes}
use Rattle.ips_load.proofs.head_words.publisher.Goals as goal

pub returns-then-is_some-clause-none : goal.returns-then-is_some-clause-none
returns-then-is_some-clause-none c = cut_no_publisher c.cut.result c.args.bytes.now (sym c.is_some.ensures ∙ c.if-is_some.true) c.cut.ensures.some

pub returns-clause-sole : goal.returns-clause-sole
returns-clause-sole c = stems_publish c.cut.result c.stem.result c.args.bytes.now (sym c.is_some.ensures ∙ c.if-is_some.false) c.cut.ensures.none c.stem.ensures.sole c.stem.ensures.of_bytes

pub returns-clause-none : goal.returns-clause-none
returns-clause-none c = no_stem_publishes c.stem.result c.args.bytes.now c.stem.ensures.none
