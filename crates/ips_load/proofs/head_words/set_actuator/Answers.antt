use Rattle.std.proofs.Common.{◌≡◌, ◌++◌, ℕ, List, codes, rules}
use Rattle.ips_text.specs.Quote.{quoted}
use Rattle.ips_records.specs.Form.{IsWord}
use Rattle.ips_load.proofs.HeadWords.{found_sole, found_written, found_none}
use Rattle.ips_load.proofs.head_words.set_actuator.Goals as goal

pub returns-clause-sole : goal.returns-clause-sole
returns-clause-sole c = found_sole (codes "actuator ") quoted IsWord c.word.result c.word.ensures.sole

pub returns-clause-of_bytes : goal.returns-clause-of_bytes
returns-clause-of_bytes c = found_written (codes "actuator ") quoted IsWord c.word.result c.args.bytes.now c.in-Some.rest.now c.in-Some.ensures.some c.word.ensures.of_bytes

pub returns-clause-none : goal.returns-clause-none
returns-clause-none c = found_none (codes "actuator ") quoted IsWord c.word.result c.args.bytes.now c.in-Some.rest.now c.in-Some.ensures.some c.word.ensures.none
