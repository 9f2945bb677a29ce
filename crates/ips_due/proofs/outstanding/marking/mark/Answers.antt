use Rattle.ips_conflict.specs.Index.{has_path}
use Rattle.ips_meaning.proofs.Added.{added}
use Rattle.ips_due.proofs.outstanding.marking.mark.Goals as goal

pub returns : goal.returns
returns c = λ p. added c.args.path.now p (has_path c.args.keys.now p) (has_path c.mark_above.new.keys p) (has_path c.add.new.keys p) (c.in_ok-mark_above.ensures p) (c.in_ok-add.ensures.paths p)
