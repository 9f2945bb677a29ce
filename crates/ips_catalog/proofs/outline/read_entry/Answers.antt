use Rattle.std.proofs.Common.{◌≡◌, ◌∷◌, Some, ap, ◌∙◌, arith}
use Rattle.json.specs.Token.{begin_object}
use Rattle.serde_json.specs.Data.{object}
use Rattle.ips_catalog.specs.Outline.{value_at}
use Rattle.ips_catalog.proofs.Turns.{object_read, object_refused}
use Rattle.ips_catalog.proofs.outline.read_entry.Goals as goal

pub returns-in_err-read_version-clause-refused : goal.returns-in_err-read_version-clause-refused
returns-in_err-read_version-clause-refused c refused =
    let opened : c.args.reader.now ≡ begin_object ∷ c.open_object.new.reader = grind arith in
    ap (value_at 124) opened ∙ object_refused 124 c.open_object.new.reader (omega arith) (c.read_version.ensures.refused (grind arith))

pub returns-clause-read : goal.returns-clause-read
returns-clause-read c =
    let opened : c.args.reader.now ≡ begin_object ∷ c.open_object.new.reader = grind arith in
    let done = c.in_ok-read_version.ensures.read in
    (object done.0, ap (value_at 124) opened ∙ object_read 124 c.open_object.new.reader c.read_version.new.reader done.0 (omega arith) done.1, ap (λ v. Some v) done.2)
