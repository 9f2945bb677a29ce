use Rattle.std.proofs.Common.{map, string_bytes, Global, sym, subst}
use Rattle.std.proofs.lemmas.Result.{err_from_is_err_and}
use Rattle.ips_mogrify.specs.Outcome.{source_seen, IsFitFile}
use Rattle.ips_mogrify.proofs.Unread.{comes_misused, comes_unread, comes_refused}
use Rattle.ips_mogrify.proofs.top.text_of.Goals as goal

pub returns-in-Err-Bad-clause-comes : goal.returns-in-Err-Bad-clause-comes
returns-in-Err-Bad-clause-comes g c =
    comes_misused (map (string_bytes {Z = Global}) c.args.words.now) (source_seen g.S.Source.outside c.args.source.now) c.in-Err-Bad.usage.place c.in-Err-Bad.usage.why c.misused.result
    (rw c.in-Err-Bad.field-0-is at c.in-Err-Bad.ensures.bad) (rw c.in-Err-Bad.field-0-is at c.misused.ensures)

pub returns-in_err-files-clause-comes : goal.returns-in_err-files-clause-comes
returns-in_err-files-clause-comes g c =
    let words = map (string_bytes {Z = Global}) c.args.words.now in
    let s = source_seen g.S.Source.outside c.args.source.now in
    let p = err_from_is_err_and c.from_residual.result c.from_residual.ensures.1 in
    rw (p.1, p.2) (comes_unread s c.in-Ok.asked.rules.bytes c.in-Ok.asked.manifest.bytes words c.in_err-files.field-0.0 c.in-Ok.ensures.found c.in_err-files.ensures.unread)

pub returns-in-Err-Bad-judged-clause-comes : goal.returns-in-Err-Bad-judged-clause-comes
returns-in-Err-Bad-judged-clause-comes g c =
    let words = map (string_bytes {Z = Global}) c.args.words.now in
    let s = source_seen g.S.Source.outside c.args.source.now in
    let asked = c.in-Ok.asked in
    comes_refused words s c.deref.result.now c.deref-2.result.now c.in-Err-Bad-judged.refusal c.outcome_of.result
    (asked.rules.bytes, asked.manifest.bytes, c.in-Ok.ensures.found, subst (IsFitFile s asked.rules.bytes) (sym c.deref.ensures.value) c.in_ok-files.ensures.rules, subst (IsFitFile s asked.manifest.bytes) (sym c.deref-2.ensures.value) c.in_ok-files.ensures.manifest)
    (rw c.in-Err-Bad-judged.field-0-is at c.in-Err-Bad-judged.ensures.bad) c.outcome_of.ensures

pub returns-in_err-files-clause-asked : goal.returns-in_err-files-clause-asked
returns-in_err-files-clause-asked g c = λ failed. (c.in-Ok.asked.rules.bytes, c.in-Ok.asked.manifest.bytes, c.in-Ok.ensures.found)

pub returns-in-Err-Bad-judged-clause-asked : goal.returns-in-Err-Bad-judged-clause-asked
returns-in-Err-Bad-judged-clause-asked g c = λ failed. (c.in-Ok.asked.rules.bytes, c.in-Ok.asked.manifest.bytes, c.in-Ok.ensures.found)
