use Rattle.std.proofs.Common.{[], ◌∷◌, take, sym, ◌∙◌, arith, length-take-le, length-set}
use Rattle.std.proofs.lemmas.List.{take_more_set}
use Rattle.ips_text.proofs.Bytes.{bytes_append}
use Rattle.ips_text.proofs.Cuts.{some_there}
use Rattle.ips_journal.proofs.Escapes.{none_told, too_long, told_more}
use Rattle.ips_journal.proofs.fields.decode.Goals as goal

pub returns-in_default-clause-none : goal.returns-in_default-clause-none
returns-in_default-clause-none c = λ list are le e.
    none_told c.args.slash (take c.loop-rest.count c.loop-rest.buffer) c.loop-rest.rest.now list c.loop-rest.invariant.bytes are
    (some_there c.loop-rest.rest.now (sym c.is_empty.ensures ∙ c.loop-rest-test.true)) c.in_default.ensures.none (sym c.loop-rest.invariant.told ∙ e)

pub returns-then-count-buffer-clause-none : goal.returns-then-count-buffer-clause-none
returns-then-count-buffer-clause-none c = λ list are le e.
    too_long c.args.slash (take c.loop-rest.count c.loop-rest.buffer) c.loop-rest.rest.now list c.loop-rest.invariant.bytes are
    (some_there c.loop-rest.rest.now (sym c.is_empty.ensures ∙ c.loop-rest-test.true))
    (omega (arith, le, c.if-count-buffer.true, c.loop-rest.auto.buffer, length-take-le c.loop-rest.count c.loop-rest.buffer c.loop-rest.invariant.within)) (sym c.loop-rest.invariant.told ∙ e)

pub loop-rest-preserved : goal.loop-rest-preserved
loop-rest-preserved c =
    let more = take_more_set c.loop-rest.buffer c.loop-rest.count c.in-Some.byte (omega arith) in
    record {
      within = simp length-set (omega arith);
      told = rw more (told_more c.args.slash c.args.bytes.now (take c.loop-rest.count c.loop-rest.buffer) c.loop-rest.rest.now c.in-Some.after.now c.in-Some.byte c.loop-rest.invariant.told c.in-Some.ensures.some);
      bytes = rw more (bytes_append (take c.loop-rest.count c.loop-rest.buffer) (c.in-Some.byte ∷ []) c.loop-rest.invariant.bytes (c.in-Some.ensures.small, tt));
    }
