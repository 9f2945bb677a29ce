use Rattle.ips_movable.proofs.Moving.{fixed_long, moves}
use Rattle.ips_movable.proofs.fixing.is_fixed.Goals as goal

pub returns-else-not-can_be_made-clause-same : goal.returns-else-not-can_be_made-clause-same
returns-else-not-can_be_made-clause-same c = fixed_long c.args.root.now.bytes c.args.thing.now c.bytes.result.now c.bytes-else-not-can_be_made.result.now c.can_be_made.result c.if-not-can_be_made.false c.can_be_made.ensures.made c.bytes.ensures.value c.bytes-else-not-can_be_made.ensures.value c.bytes.ensures.path c.bytes-else-not-can_be_made.ensures.path

pub returns-else-not-can_be_made-clause-free : goal.returns-else-not-can_be_made-clause-free
returns-else-not-can_be_made-clause-free c = λ few. moves c.args.root.now.bytes c.args.thing.now c.bytes.result.now c.bytes-else-not-can_be_made.result.now c.can_be_made.result c.if-not-can_be_made.false c.can_be_made.ensures.made c.bytes.ensures.value c.bytes-else-not-can_be_made.ensures.value c.bytes.ensures.path c.bytes-else-not-can_be_made.ensures.path few c.can_be_made.ensures.says
