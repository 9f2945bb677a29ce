use Rattle.std.proofs.Common.{◌∙◌}
use Rattle.ips_meaning.specs.Places.{has_path}
use Rattle.ips_meaning.proofs.Added.{added}
use Rattle.ips_meaning.proofs.paths.add.Goals as goal

pub returns-clause-paths : goal.returns-clause-paths
returns-clause-paths c = λ p. added c.args.path.now p (has_path c.args.paths.now p) (has_path c.add_above.new.paths p) (has_path c.add_one.new.paths p) (c.in_ok-add_above.ensures.paths p) (c.in_ok-add_one.ensures.paths p)

pub returns-clause-places : goal.returns-clause-places
returns-clause-places c = λ p. c.in_ok-add_one.ensures.places p ∙ c.in_ok-add_above.ensures.places p
