use Rattle.std.proofs.Common.{ap, ◌∙◌}
use Rattle.std.specs.Result.{result_ok}
use Rattle.ips_digest.proofs.Names.{lower_read}
use Rattle.ips_digest.proofs.name.from_lower_hex.Goals as goal

pub returns-then-are_lower_digits-clause-digits : goal.returns-then-are_lower_digits-clause-digits
returns-then-are_lower_digits-clause-digits g c =
    (lower_read _ _ _ (c.are_lower_digits.ensures.0 c.if-are_lower_digits.true) (c.ok.ensures.value ∙ ap result_ok c.from_hex.ensures)).0

pub returns-then-are_lower_digits-clause-found : goal.returns-then-are_lower_digits-clause-found
returns-then-are_lower_digits-clause-found g c =
    (lower_read _ _ _ (c.are_lower_digits.ensures.0 c.if-are_lower_digits.true) (c.ok.ensures.value ∙ ap result_ok c.from_hex.ensures)).1
