use Rattle.std.proofs.Common.{ℕ, map, string_bytes, Global, refl, arith}
use Rattle.std.proofs.lemmas.List.{length-map}
use Rattle.std.proofs.lemmas.Option.{slice_get_within}
use Rattle.std.proofs.lemmas.Result.{err_from_is_err_and}
use Rattle.ips_syntax.specs.declared.table.Why.TheVariants.{Missing, Unknown, BadValue}
use Rattle.ips_mogrify.proofs.Words.{if_wrong, word_missing, word_extra, fit_none, fit_name, fit_option, fit_folder, fit_rules, fit_manifest, asks}
use Rattle.ips_mogrify.proofs.asked.read_asked.Goals as goal

pub returns-in_err-check_word-clause-bad : goal.returns-in_err-check_word-clause-bad
returns-in_err-check_word-clause-bad c =
    let words = map (string_bytes {Z = Global}) c.args.words.now in
    let p = err_from_is_err_and c.from_residual.result c.from_residual.ensures.1 in
    rw (p.1, p.2) (if_wrong ℕ ℕ words 0 Unknown c.in_err-check_word.field-0.0 (omega arith) (omega arith) (fit_none words) refl c.in_err-check_word.ensures.bad)

pub returns-in_err-check_word-2-clause-bad : goal.returns-in_err-check_word-2-clause-bad
returns-in_err-check_word-2-clause-bad c =
    let words = map (string_bytes {Z = Global}) c.args.words.now in
    let name = c.in_ok-check_word.ensures.found in
    let p = err_from_is_err_and c.from_residual-in_err-check_word-2.result c.from_residual-in_err-check_word-2.ensures.1 in
    rw (p.1, p.2)
    (if_wrong ℕ ℕ words 1 Unknown c.in_err-check_word-2.field-0.0 (omega arith) (omega (arith, slice_get_within words 0 _ name)) (fit_name words name) refl c.in_err-check_word-2.ensures.bad)

pub returns-then-words-lt3-clause-bad : goal.returns-then-words-lt3-clause-bad
returns-then-words-lt3-clause-bad c =
    let words = map (string_bytes {Z = Global}) c.args.words.now in
    let name = c.in_ok-check_word.ensures.found in
    let option = c.in_ok-check_word-2.ensures.found in
    rw c.wrong.ensures
    (word_missing words 2 Missing (omega arith) (omega (arith, slice_get_within words 1 _ option)) (omega (arith, length-map c.args.words.now (string_bytes {Z = Global}), c.if-words-lt3.true)) (fit_option words name option) refl)

pub returns-in_err-rules-clause-bad : goal.returns-in_err-rules-clause-bad
returns-in_err-rules-clause-bad c =
    let words = map (string_bytes {Z = Global}) c.args.words.now in
    let name = c.in_ok-check_word.ensures.found in
    let option = c.in_ok-check_word-2.ensures.found in
    let long = length-map c.args.words.now (string_bytes {Z = Global}) in
    let p = err_from_is_err_and c.from_residual-in_err-rules.result c.from_residual-in_err-rules.ensures.1 in
    rw (p.1, p.2)
    (if_wrong ℕ ℕ words 3 BadValue c.in_err-rules.field-0.0 (omega arith) (omega (arith, long, c.if-words-lt3.false)) (fit_folder words name option (omega (arith, long, c.if-words-lt3.false))) refl c.in_err-rules.ensures.bad)

pub returns-in_err-manifest-clause-bad : goal.returns-in_err-manifest-clause-bad
returns-in_err-manifest-clause-bad c =
    let words = map (string_bytes {Z = Global}) c.args.words.now in
    let name = c.in_ok-check_word.ensures.found in
    let option = c.in_ok-check_word-2.ensures.found in
    let rules = c.in_ok-rules.ensures.found in
    let p = err_from_is_err_and c.from_residual-in_err-manifest.result c.from_residual-in_err-manifest.ensures.1 in
    rw (p.1, p.2)
    (if_wrong ℕ ℕ words 4 BadValue c.in_err-manifest.field-0.0 (omega arith) (omega (arith, slice_get_within words 3 _ rules.0)) (fit_rules words name option c.in_ok-rules.rules.bytes rules.0 rules.1) refl c.in_err-manifest.ensures.bad)

pub returns-then-words-gt5-clause-bad : goal.returns-then-words-gt5-clause-bad
returns-then-words-gt5-clause-bad c =
    let words = map (string_bytes {Z = Global}) c.args.words.now in
    let name = c.in_ok-check_word.ensures.found in
    let option = c.in_ok-check_word-2.ensures.found in
    let rules = c.in_ok-rules.ensures.found in
    let manifest = c.in_ok-manifest.ensures.found in
    rw c.wrong-then-words-gt5.ensures
    (word_extra words (omega (arith, length-map c.args.words.now (string_bytes {Z = Global}), c.if-words-gt5.true)) (fit_manifest words name option c.in_ok-rules.rules.bytes c.in_ok-manifest.manifest.bytes rules.0 rules.1 manifest.0 manifest.1))

pub returns-clause-found : goal.returns-clause-found
returns-clause-found c =
    let words = map (string_bytes {Z = Global}) c.args.words.now in
    let rules = c.in_ok-rules.ensures.found in
    let manifest = c.in_ok-manifest.ensures.found in
    asks words c.in_ok-rules.rules.bytes c.in_ok-manifest.manifest.bytes c.in_ok-check_word.ensures.found c.in_ok-check_word-2.ensures.found rules.0 rules.1 manifest.0 manifest.1
    (omega (arith, length-map c.args.words.now (string_bytes {Z = Global}), c.if-words-gt5.false))
