use Rattle.std.proofs.Common.{◌≡◌, length, take}
use Rattle.ips_journal.proofs.PartForms.{on_ok, not_ok, path_told, one_path, no_path}
use Rattle.ips_journal.proofs.parts.read_path.Goals as goal

pub returns-in_default-clause-none : goal.returns-in_default-clause-none
returns-in_default-clause-none c = λ off p h e. no_path c.args.bytes.now (length c.args.buffer.now) c.requires.buffer c.in_default.ensures.none p h e

pub returns-clause-found : goal.returns-clause-found
returns-clause-found c = λ yes.
    path_told c.args.bytes.now (take c.in-Some.count c.decode.new.buffer) c.set.new.self.bytes c.in-Some.ensures.some
    (on_ok c.set.result c.is_ok.result (c.set.new.self.bytes ≡ take c.in-Some.count c.decode.new.buffer) c.is_ok.ensures.value yes c.set.ensures.written)

pub returns-clause-none : goal.returns-clause-none
returns-clause-none c = λ off p h e.
    not_ok c.set.result c.is_ok.result c.is_ok.ensures.value off
    (c.set.ensures.only (one_path c.args.bytes.now (take c.in-Some.count c.decode.new.buffer) p c.in-Some.ensures.are_bytes c.in-Some.ensures.some h e))
