use Rattle.std.proofs.Common.{◌≡◌, ◌∷◌, Some, ap, ◌∙◌, arith}
use Rattle.json.specs.Token.{begin_object}
use Rattle.serde_json.specs.Data.{object}
use Rattle.ips_catalog.specs.Outline.{value_at}
use Rattle.ips_catalog.proofs.Turns.{object_read, object_refused}
use Rattle.ips_catalog.proofs.outline.read_top.Goals as goal

pub returns-in_err-find_published-clause-refused : goal.returns-in_err-find_published-clause-refused
returns-in_err-find_published-clause-refused c refused =
    let opened : c.args.reader.now ≡ begin_object ∷ c.open_object.new.reader = grind arith in
    ap (value_at 127) opened ∙ object_refused 127 c.open_object.new.reader (omega arith) (c.find_published.ensures.refused (grind arith))

pub returns-clause-read : goal.returns-clause-read
returns-clause-read c =
    let opened : c.args.reader.now ≡ begin_object ∷ c.open_object.new.reader = grind arith in
    let done = c.in_ok-find_published.ensures.read in
    (object done.0, ap (value_at 127) opened ∙ object_read 127 c.open_object.new.reader c.find_published.new.reader done.0 (omega arith) done.1, ap (λ v. Some v) done.2)
