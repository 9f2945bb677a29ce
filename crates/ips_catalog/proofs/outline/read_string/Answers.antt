use Rattle.std.proofs.Common.{◌≡◌, ◌∷◌, Some, sym, ap, ◌∙◌, arith}
use Rattle.json.specs.Reads.{token_of}
use Rattle.serde_json.specs.Data.{string}
use Rattle.ips_catalog.specs.Outline.{value_at}
use Rattle.ips_catalog.proofs.FirstTokens.{nothing_refused, string_is}
use Rattle.ips_catalog.proofs.outline.read_string.Goals as goal

pub returns-in_err-token-clause-refused : goal.returns-in_err-token-clause-refused
returns-in_err-token-clause-refused c never = nothing_refused 123 c.args.reader.now (grind arith)

pub returns-in-String-clause-read : goal.returns-in-String-clause-read
returns-in-String-clause-read c =
    let first : c.args.reader.now ≡ token_of c.in_ok-token.token ∷ c.next.new.self = grind arith in
    (string c.in-String.text.now, ap (value_at 123) first ∙ string_is 123 c.next.new.self c.in_ok-token.token c.in-String.text c.in-String.is, ap (λ s. Some s) (sym c.in_ok-new.ensures))
