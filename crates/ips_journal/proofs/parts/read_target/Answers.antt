use Rattle.std.proofs.Common.{◌≡◌, length, take}
use Rattle.ips_journal.proofs.PartForms.{on_ok, not_ok, target_told, one_target, no_target}
use Rattle.ips_journal.proofs.parts.read_target.Goals as goal

pub returns-in_default-clause-none : goal.returns-in_default-clause-none
returns-in_default-clause-none c = λ off t h ht e. no_target c.args.bytes.now (length c.args.buffer.now) c.requires.buffer c.in_default.ensures.none t h ht e

pub returns-clause-found : goal.returns-clause-found
returns-clause-found c = λ yes.
    target_told c.args.bytes.now (take c.in-Some.count c.decode.new.buffer) c.set.new.self.bytes c.in-Some.ensures.some
    (on_ok c.set.result c.is_ok.result (c.set.new.self.bytes ≡ take c.in-Some.count c.decode.new.buffer) c.is_ok.ensures.value yes c.set.ensures.written)

pub returns-clause-none : goal.returns-clause-none
returns-clause-none c = λ off t h ht e.
    not_ok c.set.result c.is_ok.result c.is_ok.ensures.value off
    (c.set.ensures.only (one_target c.args.bytes.now (take c.in-Some.count c.decode.new.buffer) t c.in-Some.ensures.are_bytes c.in-Some.ensures.some h ht e))
